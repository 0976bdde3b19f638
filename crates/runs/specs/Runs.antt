-- What a line leaves in the lent arrays, every word and byte of them, and what it reports.
use Rattle.std.specs.Prelude.{◌≡◌, ℕ, ◌+◌, ◌%◌, ◌^◌, true, false, None, List, replicate, Result, Ok, Err}
use Rattle.entries.specs.Decoded.{Key, Item, no_key, table_in}
use Rattle.entries.specs.Entries.{Entry}
use Rattle.table.specs.Form.{within}
use Rattle.model.specs.Measures.{max_servers, max_buckets}
use Rattle.server.specs.declared.Words.{Words}
use Rattle.server.specs.Views.{effect_in, words_in}
use Rattle.server.specs.declared.Effect.{Effect}
use Rattle.memory.specs.declared.Counts.{Counts}
use Rattle.memory.specs.Layout.{slot_of, counts_at, place_at, fresh_places, message_at, put_counts, put_words, put_texts}
use Rattle.refusals.specs.declared.Refusal.{Refusal}
use Rattle.refusals.specs.declared.Refusal.TheVariants.{Malformed, ClusterWrong}
use Rattle.refusals.specs.Refusals.{inside, send_count, message_refusal}
use Rattle.moves.specs.declared.Move.{Move}
use Rattle.moves.specs.Moves.{reads_table}
use Rattle.moves.specs.Reactions.{EffectNeeded}
use Rattle.views.specs.Memory.{Memory, memory, standing, local_at, table_at}
use Rattle.views.specs.Changes.{moved, answered}
use Rattle.views.specs.Queue.{Flight, flight, without_message, sent}
use Rattle.plans.specs.declared.Step.{Step}
use Rattle.plans.specs.declared.Carried.{Carried}
use Rattle.plans.specs.declared.Plan.{Plan}
use Rattle.plans.specs.declared.Plan.TheVariants.{Loses, Moves, Takes}
use Rattle.plans.specs.Arrays.{asked_at}
use Rattle.plans.specs.Plans.{bad_lengths, no_words, no_effect, call_bucket, message_step, gone, receiver_at, elect_at, timeout_at, stop_at, start_at, call_at, hand_at, lose_at, cut_at}
use Rattle.parse.specs.declared.Kind.{Kind}
use Rattle.parse.specs.declared.Kind.TheVariants as K
use Rattle.parse.specs.declared.Line.{Line}
use Rattle.parse.specs.Meaning.{expected_item, new_item}
use Rattle.runs.specs.declared.Report.{Report}

-- what a line leaves, and what it comes to: why it is refused, or its report
pub record Ran : Type 0 where
  pub memory : Memory
  pub answers : List ℕ
  pub told : Result Report Refusal

abbrev pub ran : Memory → List ℕ → Result Report Refusal → Ran
ran m l r = record { memory = m; answers = l; told = r }

-- a refused line changes nothing
abbrev pub refused_run : Memory → List ℕ → Refusal → Ran
refused_run m l r = ran m l (Err r)

-- of a line that sends and answers nothing
abbrev pub bare_report : Report
bare_report = record { effect = no_effect; answers = 0; sent = 0; copied = 0; delivered = 0; lost = 0; messages = 0 }

-- ---- one more accepted line

abbrev pub next_counts : Counts → ℕ → ℕ → Counts
next_counts c messages calls =
    record { servers = c.servers; buckets = c.buckets; messages = messages; lines = (c.lines + 1) % 2 ^ 32; calls = calls }

-- the messages once the one handed over has left the list
abbrev pub left_flight : Memory → Counts → Step → Flight
left_flight m c x = without_message x.removes x.index (flight m.queue m.payloads c.messages)

-- a message is lost
unfoldable pub lost_run : Memory → List ℕ → Counts → Step → Ran
lost_run m l c x =
    let y = left_flight m c x in
    ran
    (memory (put_counts m.counts (next_counts c y.count x.calls)) m.heads m.slots m.copies m.working m.texts y.queue y.payloads)
    l
    (Ok (record { effect = no_effect; answers = 0; sent = 0; copied = x.copied; delivered = 0; lost = 1; messages = y.count }))

-- a move is carried out: the server's arrays, then the messages
abbrev pub moved_at : Memory → Counts → Step → Move → List Entry → Memory
moved_at m c x v made = moved m c.buckets x.server x.bucket (place_at m.queue x.index) v made

abbrev pub sent_flight : Memory → Counts → Step → Move → List Entry → Flight
sent_flight m c x v made =
    sent
    c.servers
    x.server
    x.bucket
    (slot_of x.server x.bucket)
    x.asked
    v
    (moved_at m c x v made).working
    (moved_at m c x v made).copies
    (left_flight m c x)

-- `made` is the new table, where the move writes one
unfoldable pub carried_run : Memory → List ℕ → Counts → Step → Move → List Entry → Effect → Ran
carried_run m l c x v made f =
    let m1 = moved_at m c x v made in
    let y = sent_flight m c x v made in
    let w = answered m.slots c.buckets x.server v l in
    ran
    (memory (put_counts m.counts (next_counts c y.count x.calls)) m1.heads m1.slots m1.copies m1.working m.texts y.queue y.payloads)
    w.answers
    (Ok
    (record { effect = f; answers = w.count; sent = send_count c.servers v.sends; copied = x.copied; delivered = x.delivered; lost = x.lost; messages = y.count }))

abbrev pub planned_carried : Memory → List ℕ → Counts → Carried → Ran
planned_carried m l c p = carried_run m l c p.step p.next (table_in p.effect.table) p.effect

-- the words of a call that is taken are stored first
unfoldable pub taken : Memory → Words → Step → Memory
taken m w x =
    let k = slot_of x.server x.bucket in
    memory m.counts m.heads (put_words m.slots k w) m.copies m.working (put_texts m.texts k w) m.queue m.payloads

unfoldable pub accepted : Memory → List ℕ → Counts → Plan → Ran
accepted m l c (Loses x) = lost_run m l c x
accepted m l c (Moves p) = planned_carried m l c p
accepted m l c (Takes w p) = planned_carried (taken m w p.step) l c p

unfoldable pub executed : Memory → List ℕ → Counts → Result Plan Refusal → Ran
executed m l c (Ok p) = accepted m l c p
executed m l c (Err r) = refused_run m l r

-- ---- the cluster line

abbrev pub fresh_counts : ℕ → ℕ → Counts
fresh_counts n b = record { servers = n; buckets = b; messages = 0; lines = 0; calls = 0 }

-- all numbers 0, all copies empty, all places free; what no server, round, call or message looks at stays
unfoldable pub fresh_memory : Memory → ℕ → ℕ → Memory
fresh_memory m n b =
    memory (put_counts m.counts (fresh_counts n b)) (replicate 112 0) (replicate 1792 0) (replicate 7168 0) m.working m.texts (fresh_places m.queue) m.payloads

unfoldable pub created_run : Memory → List ℕ → ℕ → ℕ → Ran
created_run m l n b =
    elim (within max_servers n) [
      | false ↦ refused_run m l ClusterWrong
      | true ↦ elim (within max_buckets b) [ false ↦ refused_run m l ClusterWrong | true ↦ ran (fresh_memory m n b) l (Ok bare_report) ]
    ]

-- 2: a second cluster
unfoldable pub cluster_run : Memory → List ℕ → ℕ → ℕ → Ran
cluster_run m l n b = elim (standing (counts_at m.counts)) [ true ↦ refused_run m l ClusterWrong | false ↦ created_run m l n b ]

-- ---- a line; f is the effect that it asks for, if it does

-- the words of a call: what its kind does not use is none
abbrev pub words_with : ℕ → ℕ → Key → Item → Item → Words
words_with kind b k e v = record { kind = kind; bucket = b; key = k; expected = e; value = v }

unfoldable pub words_of : Kind → Line → Words
words_of K.Malformed x = no_words
words_of K.Cluster x = no_words
words_of K.Elect x = no_words
words_of K.Get x = words_with 1 0 x.key None None
words_of K.Set x = words_with 2 0 x.key None (new_item x)
words_of K.SetIf x = words_with 3 0 x.key (expected_item x) (new_item x)
words_of K.Del x = words_with 4 0 x.key None None
words_of K.Keys x = words_with 5 x.second no_key None None
words_of K.Deliver x = no_words
words_of K.Copy x = no_words
words_of K.Lose x = no_words
words_of K.Timeout x = no_words
words_of K.Stop x = no_words
words_of K.Cut x = no_words
words_of K.Start x = no_words

unfoldable pub line_plan : Kind → Memory → Counts → Line → Effect → Result Plan Refusal
line_plan K.Malformed m c x f = Err Malformed
line_plan K.Cluster m c x f = Err ClusterWrong
line_plan K.Elect m c x f = elect_at m c x.first
line_plan K.Get m c x f = call_at m c x.first (words_of K.Get x) f
line_plan K.Set m c x f = call_at m c x.first (words_of K.Set x) f
line_plan K.SetIf m c x f = call_at m c x.first (words_of K.SetIf x) f
line_plan K.Del m c x f = call_at m c x.first (words_of K.Del x) f
line_plan K.Keys m c x f = call_at m c x.first (words_of K.Keys x) f
line_plan K.Deliver m c x f = hand_at m c x.first true f
line_plan K.Copy m c x f = hand_at m c x.first false f
line_plan K.Lose m c x f = lose_at c x.first
line_plan K.Timeout m c x f = timeout_at m c x.first x.second
line_plan K.Stop m c x f = stop_at m c x.first
line_plan K.Cut m c x f = cut_at m c x.first x.second
line_plan K.Start m c x f = start_at m c x.first

-- 2: no cluster yet
unfoldable pub planned_run : Memory → List ℕ → Line → Effect → Ran
planned_run m l x f =
    let c = counts_at m.counts in
    elim (standing c) [ true ↦ executed m l c (line_plan x.kind m c x f) | false ↦ refused_run m l ClusterWrong ]

unfoldable pub run_by : Kind → Memory → List ℕ → Line → Effect → Ran
run_by K.Malformed m l x f = refused_run m l Malformed
run_by K.Cluster m l x f = cluster_run m l x.first x.second
run_by K.Elect m l x f = planned_run m l x f
run_by K.Get m l x f = planned_run m l x f
run_by K.Set m l x f = planned_run m l x f
run_by K.SetIf m l x f = planned_run m l x f
run_by K.Del m l x f = planned_run m l x f
run_by K.Keys m l x f = planned_run m l x f
run_by K.Deliver m l x f = planned_run m l x f
run_by K.Copy m l x f = planned_run m l x f
run_by K.Lose m l x f = planned_run m l x f
run_by K.Timeout m l x f = planned_run m l x f
run_by K.Stop m l x f = planned_run m l x f
run_by K.Cut m l x f = planned_run m l x f
run_by K.Start m l x f = planned_run m l x f

unfoldable pub line_run : Memory → List ℕ → Line → Effect → Ran
line_run m l x f = run_by x.kind m l x f

-- ---- the effect that a line asks for: it decides what is sent, so it is there before 12 is judged

-- a call that is not refused with 3 or 4
abbrev pub CallEffect : Memory → Counts → ℕ → Words → Effect → Type 0
CallEffect m c s w f =
    let k = slot_of s (call_bucket c w) in
    inside c s (call_bucket c w) ≡ true → bad_lengths w ≡ false → EffectNeeded c.servers (local_at m s k) (words_in w) (table_at m.copies k) f

-- the message that closes a checking round; `copy` asks for the same
abbrev pub HandEffect : Memory → Counts → ℕ → Effect → Type 0
HandEffect m c i f =
    let y = message_at m.queue i in
    let x = message_step c i true y in
    message_refusal c i ≡ Ok tt → gone c x (receiver_at m i) ≡ false → reads_table c.servers y (receiver_at m i) ≡ true → effect_in f ≡ asked_at m x

abbrev pub EffectOf : Kind → Memory → Counts → Line → Effect → Type 0
EffectOf K.Malformed m c x f = Unit {0}
EffectOf K.Cluster m c x f = Unit {0}
EffectOf K.Elect m c x f = Unit {0}
EffectOf K.Get m c x f = CallEffect m c x.first (words_of K.Get x) f
EffectOf K.Set m c x f = CallEffect m c x.first (words_of K.Set x) f
EffectOf K.SetIf m c x f = CallEffect m c x.first (words_of K.SetIf x) f
EffectOf K.Del m c x f = CallEffect m c x.first (words_of K.Del x) f
EffectOf K.Keys m c x f = CallEffect m c x.first (words_of K.Keys x) f
EffectOf K.Deliver m c x f = HandEffect m c x.first f
EffectOf K.Copy m c x f = HandEffect m c x.first f
EffectOf K.Lose m c x f = Unit {0}
EffectOf K.Timeout m c x f = Unit {0}
EffectOf K.Stop m c x f = Unit {0}
EffectOf K.Cut m c x f = Unit {0}
EffectOf K.Start m c x f = Unit {0}
