-- What carrying a plan out asks of its step, and what is reported of it.
use Rattle.std.specs.Prelude.{◌≡◌, ℕ, ◌<◌, ◌≤◌, true, List, Ok}
use Rattle.server.specs.declared.Effect.{Effect}
use Rattle.memory.specs.declared.Counts.{Counts}
use Rattle.memory.specs.Layout.{server_room, bucket_room, message_room}
use Rattle.refusals.specs.Refusals.{places_left}
use Rattle.moves.specs.declared.Move.{Move}
use Rattle.views.specs.Memory.{Memory}
use Rattle.plans.specs.declared.Step.{Step}
use Rattle.runs.specs.declared.Report.{Report}
use Rattle.runs.specs.declared.Told.{Told}
use Rattle.runs.specs.Runs.{Ran, ran}

-- a message is there to be lost
pub record Losable (c : Counts) (x : Step) : Type 0 where
  pub messages : c.messages ≤ message_room
  pub there : x.removes ≡ true → x.index < c.messages

-- a move has its server, bucket and message, and places for what it sends
pub record Carriable (c : Counts) (x : Step) (v : Move) : Type 0 where
  pub servers : c.servers ≤ server_room
  pub buckets : c.buckets ≤ bucket_room
  pub server : x.server < c.servers
  pub bucket : x.bucket < bucket_room
  pub index : x.index < message_room
  pub losable : Losable c x
  pub room : places_left c x.removes v.sends ≡ true

abbrev pub carried_report : Told → Step → Effect → Report
carried_report t x f =
    record { effect = f; answers = t.answers; sent = t.sent; copied = x.copied; delivered = x.delivered; lost = x.lost; messages = t.messages }

-- the run y of any effect, as memory, answers and what the move of step x told; its report has that effect
pub record CarriedOut (y : Effect → Ran) (x : Step) (m : Memory) (answers : List ℕ) (r : Told) : Type 0 where
  pub is : (f : Effect) → ran m answers (Ok (carried_report r x f)) ≡ y f
