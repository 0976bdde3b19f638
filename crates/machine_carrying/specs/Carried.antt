-- What each part of carrying a move out leaves in the two arrays. The runs, and what a move asks for, are those of crate `runs`.
use Rattle.std.specs.Prelude.{◌≡◌, ◌<◌, ℕ, List, Ok}
use Rattle.entries.specs.Decoded.{table_in}
use Rattle.entries.specs.Entries.{Entry}
use Rattle.entries.specs.declared.Decoded.{Decoded}
use Rattle.server.specs.declared.Effect.{Effect}
use Rattle.memory.specs.declared.Counts.{Counts}
use Rattle.memory.specs.Layout.{server_room, bucket_room, slot_of, put_counts}
use Rattle.memory.specs.Lent.{Lent, was, is}
use Rattle.refusals.specs.Refusals.{send_count}
use Rattle.moves.specs.declared.Filling.{Filling}
use Rattle.moves.specs.declared.Move.{Move}
use Rattle.plans.specs.declared.Plan.{Plan}
use Rattle.plans.specs.declared.Plan.TheVariants as plan
use Rattle.plans.specs.declared.Step.{Step}
use Rattle.plans.specs.Plans.{no_effect}
use Rattle.views.specs.Memory.{Memory, memory}
use Rattle.views.specs.Arrays.{old_memory, new_memory}
use Rattle.views.specs.Changes.{filled, answered}
use Rattle.views.specs.Queue.{Flight, sent}
use Rattle.machine_steps.specs.Moved.{moved_filled}
use Rattle.machine_answers.specs.Answers.{Listed}
use Rattle.machine_flight.specs.Flown.{with_flight}
use Rattle.runs.specs.declared.Report.{Report}
use Rattle.runs.specs.declared.Told.{Told}
use Rattle.runs.specs.Carrying.{CarriedOut}
use Rattle.runs.specs.Runs.{ran, next_counts, left_flight, carried_run, lost_run, taken}

-- ---- parts of a memory that a move changes

-- the working content of slot k is filled, from the message at place i or with the table `made`
abbrev pub with_filled : Memory → ℕ → ℕ → List Entry → Filling → Memory
with_filled m k i made fills =
    memory m.counts m.heads m.slots m.copies (filled m k i made fills) m.texts m.queue m.payloads

abbrev pub with_counted : Memory → Counts → Memory
with_counted m c = memory (put_counts m.counts c) m.heads m.slots m.copies m.working m.texts m.queue m.payloads

-- the messages after a move, once its server is changed
abbrev pub flown_by : Counts → Step → Move → Memory → Flight
flown_by c x v m =
    sent c.servers x.server x.bucket (slot_of x.server x.bucket) x.asked v m.working m.copies (left_flight m c x)

-- the messages, then the counts
abbrev pub flown_counted : Counts → Step → Move → Memory → Memory
flown_counted c x v m = with_counted (with_flight m (flown_by c x v m)) (next_counts c (flown_by c x v m).count x.calls)

-- ---- what the functions leave; the message handed over lies at place i

-- the server and the answers
pub record ServerChanged (m : Memory) (l : List ℕ) (c : Counts) (x : Step) (v : Move) (i : ℕ) (m' : Memory) (l' : List ℕ) (r : ℕ) : Type 0 where
  pub listed : Listed (answered m.slots c.buckets x.server v l) l' r
  pub moves : m' ≡ moved_filled m c.buckets x.server x.bucket i v

-- a move whose working content is filled
pub record CarriedOn (m : Memory) (l : List ℕ) (c : Counts) (x : Step) (v : Move) (i : ℕ) (m' : Memory) (l' : List ℕ) (r : Told) : Type 0 where
  pub listed : Listed (answered m.slots c.buckets x.server v l) l' r.answers
  pub is : m' ≡ flown_counted c x v (moved_filled m c.buckets x.server x.bucket i v)
  pub messages : r.messages ≡ (flown_by c x v (moved_filled m c.buckets x.server x.bucket i v)).count
  pub sends : r.sent ≡ send_count c.servers v.sends

-- the report without its effect
abbrev pub without_effect : Report → Report
without_effect r =
    record { effect = no_effect; answers = r.answers; sent = r.sent; copied = r.copied; delivered = r.delivered; lost = r.lost; messages = r.messages }

-- a message is lost, and the answers stay as they are; the report has this effect
pub record Lost (m : Memory) (c : Counts) (x : Step) (f : Effect) (m' : Memory) (r : Report) : Type 0 where
  pub is : (l : List ℕ) → ran m' l (Ok (without_effect r)) ≡ lost_run m l c x
  pub effect : r.effect ≡ f

-- the words of a call that is taken have a slot; other plans take none
abbrev pub Takable : Plan → Type 0
Takable (plan.Loses x) = Unit {0}
Takable (plan.Moves p) = Unit {0}
Takable (plan.Takes w p) = (p.step.server < server_room) × (p.step.bucket < bucket_room)

-- the words of a call that is taken are stored; other plans leave the memory
abbrev pub taken_by : Memory → Plan → Memory
taken_by m (plan.Loses x) = m
taken_by m (plan.Moves p) = m
taken_by m (plan.Takes w p) = taken m w p.step

-- ---- the same of lent arrays

abbrev pub ChangesServer : (words bytes answers : Lent) → Counts → Step → Move → ℕ → ℕ → Type 0
ChangesServer words bytes answers c x v i r = ServerChanged (old_memory words bytes) (was answers) c x v i (new_memory words bytes) (is answers) r

abbrev pub CarriesOn : (words bytes answers : Lent) → Counts → Step → Move → ℕ → Told → Type 0
CarriesOn words bytes answers c x v i r = CarriedOn (old_memory words bytes) (was answers) c x v i (new_memory words bytes) (is answers) r

abbrev pub CarriesOut : (words bytes answers : Lent) → Counts → Step → Move → Decoded → Told → Type 0
CarriesOut words bytes answers c x v table r =
    CarriedOut (carried_run (old_memory words bytes) (was answers) c x v (table_in table)) x (new_memory words bytes) (is answers) r

abbrev pub Loses : (words bytes : Lent) → Counts → Step → Effect → Report → Type 0
Loses words bytes c x f r = Lost (old_memory words bytes) c x f (new_memory words bytes) r

abbrev pub Takes : (words bytes : Lent) → Plan → Type 0
Takes words bytes p = new_memory words bytes ≡ taken_by (old_memory words bytes) p
