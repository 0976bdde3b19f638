-- What each line would do, judged before anything changes. The conditions stand in the order of RULES, Refusals 3; the laws in crates/runs
-- tie each plan to the definitions of crates/model/specs/Lines.antt.
use Rattle.std.specs.Prelude.{ℕ, ◌+◌, ◌%◌, ◌^◌, min, Bool, true, false, Some, None, replicate, ◌==◌, nat_le, nat_lt, Result, Ok, Err}
use Rattle.hash.specs.Fnv.{bucket_of}
use Rattle.entries.specs.Decoded.{Item, key_bytes, no_key, no_value, no_slot}
use Rattle.model.specs.Measures.{max_election, max_key_bytes, max_value_bytes}
use Rattle.server.specs.declared.Message.{Message}
use Rattle.server.specs.declared.Words.{Words}
use Rattle.server.specs.declared.Effect.{Effect}
use Rattle.server.specs.Heads.{larger_number_of}
use Rattle.server.specs.Views.{among, chosen}
use Rattle.rounds.specs.Rounds.{no_version}
use Rattle.memory.specs.declared.Counts.{Counts}
use Rattle.memory.specs.Layout.{slot_of, message_at}
use Rattle.refusals.specs.declared.Refusal.{Refusal}
use Rattle.refusals.specs.declared.Refusal.TheVariants.{NotThere, BadLength, NotLeading, BucketOccupied, NoRoundOpen, LastElection, BadCutOrStart}
use Rattle.refusals.specs.Refusals.{refused_where, places_refusal, server_refusal, start_refusal, no_receiver, inside, message_refusal}
use Rattle.moves.specs.declared.Local.{Local}
use Rattle.moves.specs.declared.Move.{Move}
use Rattle.moves.specs.Moves.{begun_move, handled_move, elected_move, ceased_move, stopped_move}
use Rattle.restarts.specs.Restarts.{restarted_move, cuttable, cut_move}
use Rattle.views.specs.Memory.{Memory, local_at}
use Rattle.plans.specs.declared.Step.{Step}
use Rattle.plans.specs.declared.Carried.{Carried}
use Rattle.plans.specs.declared.Plan.{Plan}
use Rattle.plans.specs.declared.Plan.TheVariants.{Loses, Moves, Takes}

-- ---- what stands where there is none

abbrev pub no_words : Words
no_words = record { kind = 0; bucket = 0; key = no_key; expected = None; value = None }

abbrev pub no_message : Message
no_message = record { kind = 0; sender = 0; receiver = 0; bucket = 0; election = 0; round = 0; version = no_version }

-- no result, no value and no entry
abbrev pub no_effect : Effect
no_effect = record { value = no_value; table = record { count = 0; slots = replicate 4 no_slot }; result = 0 }

-- ---- plans that are refused where a test refuses the line

unfoldable pub unless : Result (Unit {0}) Refusal → Result Plan Refusal → Result Plan Refusal
unless (Ok u) p = p
unless (Err r) p = Err r

abbrev pub carried : Step → Move → Effect → Carried
carried x v f = record { step = x; next = v; effect = f }

-- 12: more to send than places left
abbrev pub if_places_left : Counts → Step → Move → Plan → Result Plan Refusal
if_places_left c x v p = unless (places_refusal c x.removes v.sends) (Ok p)

-- a move is carried out
abbrev pub move_plan : Step → Move → Effect → Plan
move_plan x v f = Moves (carried x v f)

abbrev pub move_if_places_left : Counts → Step → Move → Effect → Result Plan Refusal
move_if_places_left c x v f = if_places_left c x v (move_plan x v f)

-- ---- lines that name a server

abbrev pub line_step : Counts → ℕ → ℕ → Step
line_step c s b =
    record { server = s; bucket = b; index = 0; removes = false; asked = no_message; copied = 0; delivered = 0; lost = 0; calls = c.calls }

unfoldable pub elect_plan : Counts → ℕ → Local → Result Plan Refusal
elect_plan c s l =
    unless (server_refusal c l.head)
    (elim (nat_le max_election (larger_number_of l.head)) [ true ↦ Err LastElection | false ↦ move_if_places_left c (line_step c s 0) (elected_move c.servers s l) no_effect ])

unfoldable pub timeout_plan : Counts → ℕ → ℕ → Local → Result Plan Refusal
timeout_plan c s b l =
    unless (server_refusal c l.head)
    (elim (among 4 l.round.purpose) [ true ↦ move_if_places_left c (line_step c s b) (ceased_move l) no_effect | false ↦ Err NoRoundOpen ])

unfoldable pub stop_plan : Counts → ℕ → Local → Result Plan Refusal
stop_plan c s l = unless (server_refusal c l.head) (move_if_places_left c (line_step c s 0) (stopped_move l) no_effect)

unfoldable pub start_plan : Counts → ℕ → Local → Result Plan Refusal
start_plan c s l = unless (start_refusal c l.head) (move_if_places_left c (line_step c s 0) (restarted_move l) no_effect)

unfoldable pub elect_at : Memory → Counts → ℕ → Result Plan Refusal
elect_at m c s = elim (inside c s 0) [ true ↦ elect_plan c s (local_at m s (slot_of s 0)) | false ↦ Err NotThere ]

unfoldable pub timeout_at : Memory → Counts → ℕ → ℕ → Result Plan Refusal
timeout_at m c s b = elim (inside c s b) [ true ↦ timeout_plan c s b (local_at m s (slot_of s b)) | false ↦ Err NotThere ]

unfoldable pub stop_at : Memory → Counts → ℕ → Result Plan Refusal
stop_at m c s = elim (inside c s 0) [ true ↦ stop_plan c s (local_at m s (slot_of s 0)) | false ↦ Err NotThere ]

unfoldable pub start_at : Memory → Counts → ℕ → Result Plan Refusal
start_at m c s = elim (inside c s 0) [ true ↦ start_plan c s (local_at m s (slot_of s 0)) | false ↦ Err NotThere ]

-- ---- calls

-- 4, by the lengths of key, expected value and value
unfoldable pub bad_key : ℕ → Bool
bad_key k = elim (k == 0) [ true ↦ true | false ↦ nat_lt max_key_bytes k ]

unfoldable pub bad_item : Item → Bool
bad_item (Some v) = nat_lt max_value_bytes v.len
bad_item None = false

unfoldable pub bad_lengths : Words → Bool
bad_lengths w =
    elim (w.kind == 5) [
      | true ↦ false
      | false ↦
          elim (bad_key w.key.len) [
            | true ↦ true
            | false ↦
                elim (bad_item w.expected) [ true ↦ true | false ↦ bad_item w.value ]
          ]
    ]

-- a key's bucket, or the one named; where 3 or 4 applies it does not matter
unfoldable pub call_bucket : Counts → Words → ℕ
call_bucket c w = elim (w.kind == 5) [ true ↦ w.bucket | false ↦ bucket_of c.buckets (key_bytes w.key) ]

abbrev pub call_step : Counts → ℕ → ℕ → Step
call_step c s b =
    record { server = s; bucket = b; index = 0; removes = false; asked = no_message; copied = 0; delivered = 0; lost = 0; calls = (c.calls + 1) % 2 ^ 32 }

-- 8 and 9
unfoldable pub leader_refusal : Local → Result (Unit {0}) Refusal
leader_refusal l = elim (l.head.role == 2) [ false ↦ Err NotLeading | true ↦ refused_where (among 5 l.call.kind) BucketOccupied ]

abbrev pub take_plan : Counts → Step → Words → Move → Effect → Result Plan Refusal
take_plan c x w v f = if_places_left c x v (Takes w (carried x v f))

-- f is what the call does to its bucket's table
unfoldable pub call_plan : Counts → ℕ → ℕ → Words → Local → Effect → Result Plan Refusal
call_plan c s b w l f =
    unless (server_refusal c l.head)
    (unless (leader_refusal l)
    (take_plan c (call_step c s b) w (begun_move c.servers s ((c.calls + 1) % 2 ^ 32) w.kind f.result l) f))

unfoldable pub call_at : Memory → Counts → ℕ → Words → Effect → Result Plan Refusal
call_at m c s w f =
    elim (inside c s (call_bucket c w)) [
      | false ↦ Err NotThere
      | true ↦
          elim (bad_lengths w) [ true ↦ Err BadLength | false ↦ call_plan c s (call_bucket c w) w (local_at m s (slot_of s (call_bucket c w))) f ]
    ]

-- ---- messages

-- a message handed over: `copy` leaves it in the list
abbrev pub message_step : Counts → ℕ → Bool → Message → Step
message_step c i removes x =
    record {
      server = min 6 x.receiver;
      bucket = min 7 x.bucket;
      index = i;
      removes = removes;
      asked = x;
      copied = chosen removes 0 1;
      delivered = 1;
      lost = 0;
      calls = c.calls;
    }

abbrev pub lost_step : Counts → ℕ → Bool → Step
lost_step c i removes =
    record { server = 0; bucket = 0; index = i; removes = removes; asked = no_message; copied = chosen removes 0 1; delivered = 0; lost = 1; calls = c.calls }

-- a message that has no receiver
unfoldable pub gone : Counts → Step → Local → Bool
gone c x l = no_receiver c x.asked.receiver l.head

-- to such a server it is lost; f is what the call does that it closes the checking round of
unfoldable pub hand_plan : Counts → Step → Message → Local → Effect → Result Plan Refusal
hand_plan c x m l f =
    elim (gone c x l) [
      | true ↦ Ok (Loses (lost_step c x.index x.removes))
      | false ↦ move_if_places_left c x (handled_move c.servers x.server f.result m l) f
    ]

abbrev pub receiver_at : Memory → ℕ → Local
receiver_at m i =
    let x = message_at m.queue i in
    local_at m (min 6 x.receiver) (slot_of (min 6 x.receiver) (min 7 x.bucket))

unfoldable pub hand_at : Memory → Counts → ℕ → Bool → Effect → Result Plan Refusal
hand_at m c i removes f =
    unless (message_refusal c i) (hand_plan c (message_step c i removes (message_at m.queue i)) (message_at m.queue i) (receiver_at m i) f)

unfoldable pub lose_at : Counts → ℕ → Result Plan Refusal
lose_at c i = unless (message_refusal c i) (Ok (Loses (lost_step c i true)))

-- ---- a message cut short: it leaves the list and counts as lost

abbrev pub cut_step : Counts → ℕ → Message → Step
cut_step c i x =
    record {
      server = min 6 x.receiver;
      bucket = min 7 x.bucket;
      index = i;
      removes = true;
      asked = x;
      copied = 0;
      delivered = 0;
      lost = 1;
      calls = c.calls;
    }

-- 18 for a server that is not there or that is stopped, for another kind of message, and for more stores than it makes
unfoldable pub cut_plan : Counts → Step → ℕ → Message → Local → Result Plan Refusal
cut_plan c x k m l =
    elim (gone c x l) [
      | true ↦ Err BadCutOrStart
      | false ↦ elim (cuttable k m l) [ true ↦ move_if_places_left c x (cut_move k m l) no_effect | false ↦ Err BadCutOrStart ]
    ]

unfoldable pub cut_at : Memory → Counts → ℕ → ℕ → Result Plan Refusal
cut_at m c i k =
    unless (message_refusal c i) (cut_plan c (cut_step c i (message_at m.queue i)) k (message_at m.queue i) (receiver_at m i))
