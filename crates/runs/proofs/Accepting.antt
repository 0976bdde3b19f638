-- What the laws of lines share: the memory at rest, and what carrying out a move or losing a message comes to.
use Rattle.std.proofs.Common.{◌≡◌, ℕ, ◌<◌, Bool, true, false, List, length}
use Rattle.entries.specs.Decoded.{table_in, value_bytes}
use Rattle.table.specs.Form.{fits}
use Rattle.model.specs.Measures.{max_entries, max_value_bytes}
use Rattle.model.specs.Cluster as cluster
use Rattle.model.specs.Leader.{Reaction}
use Rattle.model.specs.Lines as lines
use Rattle.limits.specs.Stands.{Stands}
use Rattle.server.specs.declared.Effect.{Effect}
use Rattle.memory.specs.declared.Counts.{Counts}
use Rattle.blocks.specs.Order.{Ordered}
use Rattle.memory.specs.Layout.{slot_of, counts_at, order_of, place_at}
use Rattle.refusals.specs.Refusals.{places_left}
use Rattle.moves.specs.declared.Move.{Move}
use Rattle.moves.specs.declared.Filling.TheVariants as filling
use Rattle.moves.specs.Reactions.{asked_in, reaction_in}
use Rattle.views.specs.Changes.{answers_room}
use Rattle.views.specs.Memory.{Memory, Sized, WholeLocal, standing, call_words_at, server_at, cluster_at}
use Rattle.views.proofs.Contents.{tables_at}
use Rattle.plans.specs.declared.Step.{Step}
use Rattle.runs.specs.Runs.{carried_run, lost_run}
use Rattle.runs.specs.Meaning.{state_in, result_of}

-- arrays of the lent sizes that hold a cluster within the measures, and an order of its messages that names no place twice
pub record Ready (m : Memory) (l : List ℕ) (t : lines.Tally) : Type 0 where
  pub sized : Sized m
  pub ordered : Ordered (order_of m.queue)
  pub answers : length l ≡ answers_room
  pub standing : standing (counts_at m.counts) ≡ true
  pub stands : Stands (cluster_at m) t

-- the messages that stay when message i is handed over
abbrev pub kept_messages : Bool → ℕ → List cluster.Message → List cluster.Message
kept_messages removes i ms = elim removes [ true ↦ lines.drop_at i ms | false ↦ ms ]

-- what the definitions make of a step with this reaction
abbrev pub work_of : Memory → Step → Reaction → lines.Work
work_of m x r =
    record {
      cluster = lines.after_step (cluster_at m) x.server (kept_messages x.removes x.index (cluster_at m).messages) x.calls r;
      sent = length r.sends;
      copied = x.copied;
      delivered = x.delivered;
      lost = x.lost;
      answers = r.answers;
    }

-- the reaction that a move of server x stands for
abbrev pub reaction_of : Memory → Counts → Step → Move → Effect → Reaction
reaction_of m c x v f =
    let k = slot_of x.server x.bucket in
    reaction_in c.servers x.server x.bucket (asked_in x.asked) v (tables_at m k (place_at m.queue x.index) (table_in f.table)) (call_words_at m k) (value_bytes f.value) (table_in f.table) (server_at c.servers c.buckets m x.server)

-- a move that can be carried out
pub record Possible (m : Memory) (c : Counts) (x : Step) (v : Move) (f : Effect) : Type 0 where
  pub counts : c ≡ counts_at m.counts
  pub server : x.server < c.servers
  pub bucket : x.bucket < c.buckets
  pub there : x.removes ≡ true → x.index < c.messages
  pub whole : WholeLocal v.local
  pub form : v.fills ≡ filling.Table → fits max_entries max_value_bytes (table_in f.table) ≡ true

-- where there are places, carrying it out is what the definitions make of its reaction; where there are none, 12
abbrev pub CarriesOut : Memory → List ℕ → lines.Tally → Counts → Step → Move → Effect → Type 0
CarriesOut m l t c x v f =
    places_left c x.removes v.sends ≡ true →
    lines.accept_line (state_in m t) (work_of m x (reaction_of m c x v f)) ≡ result_of t (carried_run m l c x v (table_in f.table) f)

abbrev pub LacksRoom : Memory → lines.Tally → Counts → Step → Move → Effect → Type 0
LacksRoom m t c x v f =
    places_left c x.removes v.sends ≡ false →
    lines.accept_line (state_in m t) (work_of m x (reaction_of m c x v f)) ≡ lines.refuse (state_in m t) 12

abbrev pub LosesMessage : Memory → List ℕ → lines.Tally → Counts → Step → Type 0
LosesMessage m l t c x =
    x.calls ≡ c.calls →
    (x.removes ≡ true → x.index < c.messages) →
    lines.accept_line (state_in m t) (lines.lost_message (cluster_at m) (kept_messages x.removes x.index (cluster_at m).messages) x.copied) ≡ result_of t (lost_run m l c x)
