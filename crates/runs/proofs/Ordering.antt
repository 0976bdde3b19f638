-- The order of the messages names no place twice after any line, whatever the line does.
use Rattle.std.specs.Prelude.{Result, Ok, Err}
use Rattle.std.proofs.Common.{◌≡◌, ℕ, ◌≤◌, Bool, true, false, List, length, sym, refl, subst}
use Rattle.blocks.specs.Order.{Ordered}
use Rattle.table.specs.Form.{within}
use Rattle.model.specs.Measures.{max_servers, max_buckets}
use Rattle.entries.specs.Entries.{Entry}
use Rattle.entries.specs.Decoded.{table_in}
use Rattle.server.specs.declared.Effect.{Effect}
use Rattle.memory.specs.declared.Counts.{Counts}
use Rattle.memory.specs.Layout.{slot_of, queue_length, counts_at, order_of}
use Rattle.messages.proofs.MessageLaws.{ordered_fresh}
use Rattle.refusals.specs.declared.Refusal.{Refusal}
use Rattle.moves.specs.declared.Move.{Move}
use Rattle.views.specs.Memory.{Memory, standing}
use Rattle.views.specs.Queue.{flight}
use Rattle.views.proofs.Queue.{sent_order, left_order}
use Rattle.plans.specs.declared.Step.{Step}
use Rattle.plans.specs.declared.Plan.{Plan}
use Rattle.plans.specs.declared.Plan.TheVariants.{Loses, Moves, Takes}
use Rattle.parse.specs.declared.Kind.{Kind}
use Rattle.parse.specs.declared.Kind.TheVariants as K
use Rattle.parse.specs.declared.Line.{Line}
use Rattle.runs.specs.Runs.{left_flight, moved_at, lost_run, carried_run, taken, accepted, executed, fresh_memory, created_run, cluster_run, planned_run, run_by, line_run}
use Rattle.runs.proofs.Standing.{standing_measured}

-- ---- where a cluster stands

module _ (m : Memory) (l : List ℕ) (c : Counts) (size : length m.queue ≡ queue_length) (few : c.messages ≤ 64) (ordered : Ordered (order_of m.queue)) where
  left_ordered : (x : Step) → Ordered (order_of (left_flight m c x).queue)
  left_ordered x = left_order x.removes x.index (flight m.queue m.payloads c.messages) size few ordered

  carried_ordered : (x : Step) (v : Move) (made : List Entry) (f : Effect) → Ordered (order_of (carried_run m l c x v made f).memory.queue)
  unfolding carried_run
  carried_ordered x v made f =
      subst Ordered
      (sym (sent_order c.servers x.server x.bucket (slot_of x.server x.bucket) x.asked v (moved_at m c x v made).working (moved_at m c x v made).copies (left_flight m c x)))
      (left_ordered x)

  lost_ordered : (x : Step) → Ordered (order_of (lost_run m l c x).memory.queue)
  unfolding lost_run
  lost_ordered x = left_ordered x

executed_ordered : (m : Memory) (l : List ℕ) (c : Counts) (p : Result Plan Refusal) → length m.queue ≡ queue_length → c.messages ≤ 64 → Ordered (order_of m.queue)
    → Ordered (order_of (executed m l c p).memory.queue)
unfolding executed accepted taken
executed_ordered m l c (Err r) size few ordered = ordered
executed_ordered m l c (Ok (Loses x)) size few ordered = lost_ordered m l c size few ordered x
executed_ordered m l c (Ok (Moves p)) size few ordered = carried_ordered m l c size few ordered p.step p.next (table_in p.effect.table) p.effect
executed_ordered m l c (Ok (Takes w p)) size few ordered =
    carried_ordered (taken m w p.step) l c size few ordered p.step p.next (table_in p.effect.table) p.effect

-- ---- any line

abbrev Orders : Memory → Type 0
Orders m = standing (counts_at m.counts) ≡ true → Ordered (order_of m.queue)

module _ (m : Memory) (l : List ℕ) (x : Line) (f : Effect) (size : length m.queue ≡ queue_length) (orders : Orders m) where
  planned_orders : Orders (planned_run m l x f).memory
  unfolding planned_run
  planned_orders = go (standing (counts_at m.counts)) refl
    where
      go : (b : Bool) → standing (counts_at m.counts) ≡ b → Orders (planned_run m l x f).memory
      go true e = rw (planned_run, e) (λ s. executed_ordered m l (counts_at m.counts) _ size (standing_measured (counts_at m.counts) e).messages (orders e))
      go false e = rw (planned_run, e) orders

  cluster_orders : (n b : ℕ) → Orders (cluster_run m l n b).memory
  unfolding cluster_run created_run fresh_memory
  cluster_orders n b = go (standing (counts_at m.counts)) refl (within max_servers n) refl (within max_buckets b) refl
    where
      go : (z : Bool) → standing (counts_at m.counts) ≡ z → (y : Bool) → within max_servers n ≡ y → (u : Bool) → within max_buckets b ≡ u → Orders (cluster_run m l n b).memory
      go true e y g u h = rw (cluster_run, e) orders
      go false e false g u h = rw (cluster_run, e, created_run, g) orders
      go false e true g false h = rw (cluster_run, e, created_run, g, h) orders
      go false e true g true h = rw (cluster_run, e, created_run, g, h) (λ s. ordered_fresh m.queue size)

  by_kind : (k : Kind) → Orders (run_by k m l x f).memory
  unfolding run_by
  by_kind K.Malformed = orders
  by_kind K.Cluster = cluster_orders x.first x.second
  by_kind K.Elect = planned_orders
  by_kind K.Get = planned_orders
  by_kind K.Set = planned_orders
  by_kind K.SetIf = planned_orders
  by_kind K.Del = planned_orders
  by_kind K.Keys = planned_orders
  by_kind K.Deliver = planned_orders
  by_kind K.Copy = planned_orders
  by_kind K.Lose = planned_orders
  by_kind K.Timeout = planned_orders
  by_kind K.Stop = planned_orders
  by_kind K.Cut = planned_orders
  by_kind K.Start = planned_orders

  pub line_orders : Orders (line_run m l x f).memory
  unfolding line_run
  line_orders = by_kind x.kind
