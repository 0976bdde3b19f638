-- A message lost: the messages that stay, the counts of one more line, and what the definitions make of the line.
use Rattle.std.proofs.Common.{◌≡◌, ℕ, ◌+◌, ◌-◌, ◌%◌, ◌^◌, ◌<◌, ◌≤◌, Bool, true, false, List, length, sym, refl, ap, ◌∙◌, subst, mod-eq_of_lt, arith}
use mathlib.Core.Option.{some}
use Rattle.model.specs.Measures.{max_accepted}
use Rattle.model.specs.Lines as lines
use Rattle.server.specs.Views.{chosen}
use Rattle.memory.specs.declared.Counts.{Counts}
use Rattle.blocks.specs.Order.{Ordered}
use Rattle.memory.specs.Layout.{counts_at, order_of, put_counts}
use Rattle.memory.proofs.Records.{counts_put_counts}
use Rattle.views.specs.Memory.{Memory, memory, Sized, each, cell_at, server_at, servers_at, flight_at, cluster_at, cluster_in}
use Rattle.views.specs.Changes.{answers_at}
use Rattle.views.specs.Queue.{Sound, flight, flight_in, without_message}
use Rattle.views.proofs.Queue.{removed_flight, removed_sound, removed_count, length_flight}
use Rattle.plans.specs.declared.Step.{Step}
use Rattle.plans.specs.Arrays.{Measured}
use Rattle.plans.specs.Plans.{no_effect}
use Rattle.runs.specs.declared.Report.{Report}
use Rattle.runs.specs.Runs.{next_counts, left_flight, lost_run}
use Rattle.runs.specs.Meaning.{state_in}
use Rattle.runs.proofs.Accepting.{Ready, kept_messages, LosesMessage}
use Rattle.runs.proofs.Standing.{measured_standing, measured, standing_cluster, Does, accepts_line}

-- ---- the messages that stay

module _ (m : Memory) (c : Counts) (x : Step) (sized : Sized m) (ordered : Ordered (order_of m.queue)) (few : c.messages ≤ 64) (there : x.removes ≡ true → x.index < c.messages) where
  all_sound : Sound (flight m.queue m.payloads c.messages)
  all_sound = record { queue = sized.queue; order = ordered; payloads = sized.payloads; count = few }

  pub left_sound : Sound (left_flight m c x)
  unfolding without_message
  left_sound = go x.removes refl
    where
      go : (r : Bool) → x.removes ≡ r → Sound (without_message r x.index (flight m.queue m.payloads c.messages))
      go true e = removed_sound x.index (flight m.queue m.payloads c.messages) all_sound (there e) true
      go false e = all_sound

  pub left_messages : flight_in (left_flight m c x) ≡ kept_messages x.removes x.index (flight_at c.messages m.queue m.payloads)
  unfolding without_message
  left_messages = go x.removes refl
    where
      go : (r : Bool) → x.removes ≡ r
          → flight_in (without_message r x.index (flight m.queue m.payloads c.messages)) ≡ kept_messages r x.index (flight_at c.messages m.queue m.payloads)
      go true e = removed_flight x.index (flight m.queue m.payloads c.messages) all_sound (there e)
      go false e = refl

pub left_count : (m : Memory) (c : Counts) (x : Step) → (left_flight m c x).count ≡ c.messages - chosen x.removes 1 0
unfolding chosen
left_count m c x = go x.removes
  where
    go : (r : Bool) → (without_message r x.index (flight m.queue m.payloads c.messages)).count ≡ c.messages - chosen r 1 0
    go true = removed_count true x.index (flight m.queue m.payloads c.messages)
    go false = removed_count false x.index (flight m.queue m.payloads c.messages) ∙ omega arith

-- ---- one more line

pub next_cluster : (m n : Memory) (c : Counts) (k j : ℕ) → length m.counts ≡ 8 → Measured c → c.lines ≤ max_accepted → k ≤ 64
    → n.counts ≡ put_counts m.counts (next_counts c k j)
    → cluster_in n
    ≡ some (record { servers = servers_at c.servers c.buckets n; buckets = c.buckets; messages = flight_at k n.queue n.payloads; accepted = c.lines + 1; calls = j })
next_cluster m n c k j size measured lines few e =
    let counts : counts_at n.counts ≡ next_counts c k j = ap counts_at e ∙ counts_put_counts m.counts (next_counts c k j) (omega arith) in
    let next : (c.lines + 1) % 2 ^ 32 ≡ c.lines + 1 = mod-eq_of_lt (omega arith) in
    let stays : Measured (next_counts c k j) =
    record { some_servers = measured.some_servers; servers = measured.servers; some_buckets = measured.some_buckets; buckets = measured.buckets; messages = few } in
    standing_cluster n (rw counts (measured_standing (next_counts c k j) stays)) ∙ rw (counts, next)

-- servers look at neither counts nor messages
pub servers_beside : (n most : ℕ) (m : Memory) (c q l : List ℕ) → servers_at n most (memory c m.heads m.slots m.copies m.working m.texts q l) ≡ servers_at n most m
unfolding servers_at server_at cell_at
servers_beside n most m c q l = refl

-- ---- a message is lost

module _ (m : Memory) (l : List ℕ) (t : lines.Tally) (x : Step) (ready : Ready m l t) where
  abbrev c : Counts
  c = counts_at m.counts

  abbrev report : Report
  report = record { effect = no_effect; answers = 0; sent = 0; copied = x.copied; delivered = 0; lost = 1; messages = (left_flight m c x).count }

  lost_does : x.calls ≡ c.calls → (x.removes ≡ true → x.index < c.messages)
      → Does (lines.lost_message (cluster_at m) (kept_messages x.removes x.index (cluster_at m).messages) x.copied) (lost_run m l c x).memory l report
  unfolding lost_run answers_at each
  lost_does calls there =
      let sound = left_sound m c x ready.sized ready.ordered (measured ready).messages there in
      let same = left_messages m c x ready.sized ready.ordered (measured ready).messages there in
      record {
        cluster =
            next_cluster m (lost_run m l c x).memory c (left_flight m c x).count x.calls ready.sized.counts (measured ready) ready.stands.accepted sound.count refl
            ∙ rw (servers_beside, same, calls);
        sent = refl;
        copied = refl;
        delivered = refl;
        lost = refl;
        messages = sym (length_flight (left_flight m c x) sound) ∙ ap length same;
        few = sound.count;
        answers = refl;
      }

lost_accepts : (m : Memory) (l : List ℕ) (t : lines.Tally) (x : Step) → Ready m l t → LosesMessage m l t (counts_at m.counts) x
unfolding lost_run
lost_accepts m l t x ready calls there = accepts_line (state_in m t) _ _ _ (report m l t x ready) (lost_does m l t x ready calls there)

pub loses_message : (m : Memory) (l : List ℕ) (t : lines.Tally) (c : Counts) (x : Step) → Ready m l t → c ≡ counts_at m.counts → LosesMessage m l t c x
loses_message m l t c x ready e = subst (λ (c : Counts). LosesMessage m l t c x) (sym e) (lost_accepts m l t x ready)
