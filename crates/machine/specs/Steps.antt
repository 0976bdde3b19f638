-- What the contracts of `machine` ask of a step, and what each part of it leaves.
use Rattle.std.specs.Prelude.{◌≡◌, ℕ, ◌<◌, ◌≤◌, Bool, true, false, List, [], replicate, Result, Ok, Err}
use Rattle.server.specs.declared.Effect.{Effect}
use Rattle.server.specs.declared.Message.{Message}
use Rattle.server.specs.declared.Words.{Words}
use Rattle.server.specs.Views.{effect_in}
use Rattle.memory.specs.declared.Counts.{Counts}
use Rattle.memory.specs.Layout.{bucket_room, slot_of, counts_at, fresh_places, message_at, put_counts, put_words, put_texts}
use Rattle.refusals.specs.declared.Refusal.{Refusal}
use Rattle.refusals.specs.declared.Refusal.TheVariants.{ClusterWrong}
use Rattle.refusals.specs.Refusals.{send_count}
use Rattle.moves.specs.declared.Local.{Local}
use Rattle.moves.specs.declared.Move.{Move}
use Rattle.moves.specs.Moves.{handled_move, reads_table}
use Rattle.views.specs.Memory.{Memory, memory, standing}
use Rattle.views.specs.Changes.{answered}
use Rattle.views.specs.Queue.{flight, without_message, sent}
use Rattle.steps.specs.Stored.{MovedServer}
use Rattle.answers.specs.Answers.{Listed}
use Rattle.flight.specs.Flown.{Flown}
use Rattle.plans.specs.declared.Step.{Step}
use Rattle.plans.specs.declared.Plan.{Plan}
use Rattle.plans.specs.declared.Plan.TheVariants.{Loses, Moves, Takes}
use Rattle.plans.specs.Plans.{no_effect, move_if_places_left, message_step, gone, receiver_at, hand_plan, hand_at}
use Rattle.plans.specs.Arrays.{Measured, asked_at}
use Rattle.runs.specs.declared.Report.{Report}
use Rattle.runs.specs.declared.Told.{Told}
use Rattle.runs.specs.Carrying.{Losable, Carriable}
use Rattle.runs.specs.Runs.{Ran, ran, bare_report, next_counts, fresh_counts, refused_run, executed, line_plan, planned_run, line_run, HandEffect, EffectOf}
use Rattle.parse.specs.declared.Kind.{Kind}
use Rattle.parse.specs.declared.Kind.TheVariants as K
use Rattle.parse.specs.declared.Line.{Line}

-- the server's arrays and the answers after a move; the message handed over lies at this place
pub record ServerChanged (heads slots copies working payloads answers : List ℕ) (c : Counts) (x : Step) (v : Move) (place : ℕ) (heads' slots' copies' answers' : List ℕ) (r : ℕ) : Type 0 where
  pub listed : Listed (answered slots c.buckets x.server v answers) answers' r
  pub moves : MovedServer heads slots copies working payloads c.buckets x.server x.bucket place v heads' slots' copies'

-- the arrays after a move whose working content is filled
pub record CarriedOn (counts heads slots copies working queue payloads answers : List ℕ) (c : Counts) (x : Step) (v : Move) (place : ℕ) (counts' heads' slots' copies' queue' payloads' answers' : List ℕ) (r : Told) : Type 0 where
  pub server : ServerChanged heads slots copies working payloads answers c x v place heads' slots' copies' answers' r.answers
  pub flown : Flown (sent c.servers x.server x.bucket (slot_of x.server x.bucket) x.asked v working copies' (without_message x.removes x.index (flight queue payloads c.messages))) queue' payloads' r.messages
  pub counted : counts' ≡ put_counts counts (next_counts c r.messages x.calls)
  pub sends : r.sent ≡ send_count c.servers v.sends

-- a message is lost: what is reported, and the counts and messages
pub record Lost (counts queue payloads : List ℕ) (c : Counts) (x : Step) (counts' queue' payloads' : List ℕ) (r : Report) : Type 0 where
  pub rest : flight queue' payloads' r.messages ≡ without_message x.removes x.index (flight queue payloads c.messages)
  pub counted : counts' ≡ put_counts counts (next_counts c r.messages x.calls)
  pub report : r ≡ record { effect = no_effect; answers = 0; sent = 0; copied = x.copied; delivered = 0; lost = 1; messages = r.messages }

pub record Created (counts queue : List ℕ) (n b : ℕ) (counts' heads' slots' copies' queue' : List ℕ) : Type 0 where
  pub counted : counts' ≡ put_counts counts (fresh_counts n b)
  pub heads : heads' ≡ replicate 112 0
  pub slots : slots' ≡ replicate 1792 0
  pub copies : copies' ≡ replicate 7168 0
  pub places : queue' ≡ fresh_places queue

-- the words of a call that is taken
pub record Took (slots texts : List ℕ) (w : Words) (x : Step) (slots' texts' : List ℕ) : Type 0 where
  pub numbers : slots' ≡ put_words slots (slot_of x.server x.bucket) w
  pub bytes : texts' ≡ put_texts texts (slot_of x.server x.bucket) w

-- what a plan asks for to be carried out
abbrev pub Executable : Counts → Plan → Type 0
Executable c (Loses x) = Losable c x
Executable c (Moves p) = Carriable c p.step p.next
Executable c (Takes w p) = Carriable c p.step p.next

-- ---- messages that are handed over

-- the receiver of a message is there, and the message is in the list
pub record Handable (c : Counts) (x : Step) : Type 0 where
  pub measured : Measured c
  pub server : x.server < c.servers
  pub bucket : x.bucket < bucket_room
  pub listed : x.index < c.messages

-- the run of message y at its receiver, with the effect f
abbrev pub handled_run : Memory → List ℕ → Counts → Step → Message → Local → Effect → Ran
handled_run m l c x y to f = executed m l c (move_if_places_left c x (handled_move c.servers x.server f.result y to) f)

-- message i of the list, with the effect where it asks for one
pub record HandedListed (m : Memory) (l : List ℕ) (c : Counts) (i : ℕ) (removes : Bool) (m' : Memory) (l' : List ℕ) (r : Result Report Refusal) : Type 0 where
  pub effect : Effect
  pub asked :
      let y = message_at m.queue i in
      let x = message_step c i removes y in
      gone c x (receiver_at m i) ≡ false → reads_table c.servers y (receiver_at m i) ≡ true → effect_in effect ≡ asked_at m x
  pub is : ran m' l' r ≡ executed m l c (hand_plan c (message_step c i removes (message_at m.queue i)) (message_at m.queue i) (receiver_at m i) effect)

-- a line that hands message i over
pub record HandRan (m : Memory) (l : List ℕ) (i : ℕ) (removes : Bool) (m' : Memory) (l' : List ℕ) (r : Result Report Refusal) : Type 0 where
  pub effect : Effect
  pub asked : standing (counts_at m.counts) ≡ true → HandEffect m (counts_at m.counts) i effect
  pub is : ran m' l' r ≡ elim (standing (counts_at m.counts)) [ true ↦ executed m l (counts_at m.counts) (hand_at m (counts_at m.counts) i removes effect) | false ↦ refused_run m l ClusterWrong ]

-- ---- lines

-- the memory that a plan and its effect look at
abbrev pub seen : (heads slots copies texts queue : List ℕ) → Memory
seen heads slots copies texts queue = memory [] heads slots copies [] texts queue []

-- a line that is planned: no message is handed over, so keys and values of open calls may be any
pub record LinePlanned (heads slots copies queue : List ℕ) (c : Counts) (x : Line) (p : Result Plan Refusal) : Type 0 where
  pub effect : Effect
  pub asked : (texts : List ℕ) → EffectOf x.kind (seen heads slots copies texts queue) c x effect
  pub is : p ≡ line_plan x.kind (seen heads slots copies [] queue) c x effect

-- whether a line of this kind is planned: it needs a cluster and hands no message over
unfoldable pub is_planned : Kind → Bool
is_planned K.Malformed = false
is_planned K.Cluster = false
is_planned K.Deliver = false
is_planned K.Copy = false
is_planned _ = true

-- what a cluster line tells
unfoldable pub cluster_told : Result (Unit {0}) Refusal → Result Report Refusal
cluster_told (Ok u) = Ok bare_report
cluster_told (Err e) = Err e

-- the run of a line that needs a cluster, and of any line, with the effect that it asked for
pub record RanPlan (m : Memory) (l : List ℕ) (x : Line) (m' : Memory) (l' : List ℕ) (r : Result Report Refusal) : Type 0 where
  pub effect : Effect
  pub asked : standing (counts_at m.counts) ≡ true → EffectOf x.kind m (counts_at m.counts) x effect
  pub is : ran m' l' r ≡ planned_run m l x effect

pub record RanLine (m : Memory) (l : List ℕ) (x : Line) (m' : Memory) (l' : List ℕ) (r : Result Report Refusal) : Type 0 where
  pub effect : Effect
  pub asked : standing (counts_at m.counts) ≡ true → EffectOf x.kind m (counts_at m.counts) x effect
  pub is : ran m' l' r ≡ line_run m l x effect
