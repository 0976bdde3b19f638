-- The memory that a cluster line leaves stands for the fresh cluster (RULES, Servers 4).
use Rattle.std.proofs.Common.{◌≡◌, ℕ, zero, suc, ◌+◌, ◌*◌, ◌≤◌, Bool, true, false, List, [], ◌∷◌, map, get_or, take, drop, replicate, refl, ap, ◌∙◌, ap₂, arith, get_or-drop, get_or-take}
use mathlib.Core.Option.{none, some}
use Rattle.blocks.specs.Blocks.{block}
use Rattle.blocks.specs.Order.{listed}
use Rattle.table.specs.Form.{within, table_of, entries_of}
use Rattle.table.proofs.Fitting.{within_parts}
use Rattle.model.specs.Measures.{max_servers, max_buckets}
use Rattle.model.specs.Cluster as cluster
use Rattle.model.specs.Lines as lines
use Rattle.limits.proofs.Lists.{map-replicate_lem}
use Rattle.cells.specs.Cells.{Front, Cell}
use Rattle.server.specs.Views.{flag_in, role_in, among, round_in, call_in}
use Rattle.memory.specs.Rows.{row}
use Rattle.memory.specs.Layout.{slot_of, head_of, version_of, round_of, call_of, head_at, version_at, round_at, call_at, counts_at, put_counts, content_at, fresh_places}
use Rattle.messages.specs.Messages.{messages_at}
use Rattle.memory.proofs.Records.{counts_put_counts}
use Rattle.moves.specs.Reactions.{front_in}
use Rattle.views.specs.Memory.{Memory, memory, Sized, each, table_at, cell_at, server_of, server_at, servers_at, flight_at, standing, cluster_in}
use Rattle.views.specs.Changes.{answers_at}
use Rattle.views.proofs.Each.{each_same}
use Rattle.plans.specs.Arrays.{Measured}
use Rattle.runs.specs.Runs.{fresh_counts, fresh_memory, created_run, cluster_run}
use Rattle.runs.specs.Meaning.{state_in, result_by, result_of}
use Rattle.runs.proofs.Standing.{measured_standing, standing_cluster, no_cluster}

-- ---- zeros

abbrev zeros : ℕ → List ℕ
zeros k = replicate k 0

get_or_zeros : (n i : ℕ) → get_or (zeros n) i 0 ≡ 0
get_or_zeros zero i = refl
get_or_zeros (suc n) zero = refl
get_or_zeros (suc n) (suc i) = get_or_zeros n i

row_zeros : (k p o n : ℕ) → row p o n (zeros k) ≡ zeros n
row_zeros k p o zero = refl
row_zeros k p o (suc n) = ap₂ (λ (a : ℕ) (l : List ℕ). a ∷ l) (get_or_zeros k (p + o)) (row_zeros k p (o + 1) n)

-- ---- replicate

each_constant : {A : Type 0} (n : ℕ) (a : A) → each n (λ i. a) ≡ replicate n a
unfolding each
each_constant zero a = refl
each_constant {A} (suc n) a = ap (λ (l : List A). a ∷ l) (each_constant n a)

no_votes : (n k : ℕ) → n ≤ k → map flag_in (take n (zeros k)) ≡ replicate n false
unfolding flag_in
no_votes zero k h = refl
no_votes (suc n) zero h = absurd (omega arith)
no_votes (suc n) (suc k) h = ap (λ l. false ∷ l) (no_votes n k (omega arith))

-- ---- records of zeros

zero_head : (k s : ℕ) → head_at (zeros k) s ≡ head_of (zeros 13)
unfolding head_at
zero_head k s = ap head_of (row_zeros k (s * 16) 0 13)

zero_version : (k j : ℕ) → version_at (zeros k) j ≡ version_of (zeros 2)
unfolding version_at
zero_version k j = ap version_of (row_zeros k (j * 32) 0 2)

zero_round : (k j : ℕ) → round_at (zeros k) j ≡ round_of (zeros 12)
unfolding round_at
zero_round k j = ap round_of (row_zeros k (j * 32) 2 12)

zero_call : (k j : ℕ) → call_at (zeros k) j ≡ call_of (zeros 4)
unfolding call_at
zero_call k j = ap call_of (row_zeros k (j * 32) 14 4)

zero_content : (k j : ℕ) → get_or (content_at (zeros k) j) 0 0 ≡ 0
unfolding content_at block
zero_content k j =
    get_or-take 113 (take 128 (drop (j * 128) (zeros k))) 0 0 (omega arith)
    ∙ get_or-take 128 (drop (j * 128) (zeros k)) 0 0 (omega arith)
    ∙ get_or-drop (j * 128) (zeros k) 0 0
    ∙ get_or_zeros k (j * 128 + 0)

empty_table : (l : List ℕ) → get_or l 0 0 ≡ 0 → table_of 4 16 l ≡ []
unfolding table_of entries_of
empty_table l e = rw e

zero_table : (k j : ℕ) → table_at (zeros k) j ≡ []
unfolding table_at
zero_table k j = empty_table (content_at (zeros k) j) (zero_content k j)

-- ---- the fresh servers

abbrev fresh_front : ℕ → Front
fresh_front n = record { number = 0; vote = 0; leader = 0; role = cluster.follower; votes = replicate n false; last_round = 0; stopped = false }

abbrev fresh_cell : Cell
fresh_cell = record { copy = cluster.fresh_copy; round = none; call = none }

zero_front : (k n s : ℕ) → n ≤ 7 → front_in n (head_at (zeros k) s) ≡ fresh_front n
unfolding role_in flag_in
zero_front k n s h = ap (front_in n) (zero_head k s) ∙ rw (no_votes n 7 h)

abbrev zero_memory : Memory → (counts heads slots copies : List ℕ) → Memory
zero_memory m c h s k = memory c h s k m.working m.texts (fresh_places m.queue) m.payloads

module _ (m : Memory) (counts : List ℕ) (h s k n most : ℕ) (few : n ≤ 7) where
  abbrev z : Memory
  z = zero_memory m counts (zeros h) (zeros s) (zeros k)

  zero_cell : (r j : ℕ) → cell_at n z r j ≡ fresh_cell
  unfolding cell_at round_in call_in among
  zero_cell r j = rw (zero_version s j, zero_round s j, zero_call s j, zero_table k j)

  zero_server : (r : ℕ) → server_at n most z r ≡ cluster.fresh_server n most
  unfolding server_at cluster.fresh_server
  zero_server r =
      ap₂ server_of (zero_front h n r few) (each_same most (λ b. cell_at n z r (slot_of r b)) (λ b. fresh_cell) (λ b g. zero_cell r (slot_of r b)) ∙ each_constant most fresh_cell)
      ∙ rw (map-replicate_lem (λ (c : Cell). c.copy) most fresh_cell, map-replicate_lem (λ (c : Cell). c.round) most fresh_cell, map-replicate_lem (λ (c : Cell). c.call) most fresh_cell)

  zero_servers : servers_at n most z ≡ replicate n (cluster.fresh_server n most)
  unfolding servers_at
  zero_servers =
      each_same n (λ r. server_at n most z r) (λ r. cluster.fresh_server n most) (λ r g. zero_server r)
      ∙ each_constant n (cluster.fresh_server n most)

no_messages : (queue payloads : List ℕ) → flight_at 0 queue payloads ≡ []
unfolding flight_at messages_at listed
no_messages queue payloads = refl

-- ---- the memory of a fresh cluster

module _ (m : Memory) (n b : ℕ) (sized : Sized m) where
  fresh_counts_lem : counts_at (fresh_memory m n b).counts ≡ fresh_counts n b
  unfolding fresh_memory
  fresh_counts_lem = let h = sized.counts in counts_put_counts m.counts (fresh_counts n b) (omega arith)

  fresh_cluster_lem : 1 ≤ n → n ≤ 7 → 1 ≤ b → b ≤ 8 → cluster_in (fresh_memory m n b) ≡ some (cluster.fresh_cluster n b)
  unfolding fresh_memory cluster.fresh_cluster
  fresh_cluster_lem low high some-there few =
      let measured : Measured (fresh_counts n b) = record { some_servers = low; servers = high; some_buckets = some-there; buckets = few; messages = omega arith } in
      standing_cluster (fresh_memory m n b) (rw fresh_counts_lem (measured_standing (fresh_counts n b) measured))
      ∙ rw (fresh_counts_lem, zero_servers m (put_counts m.counts (fresh_counts n b)) 112 1792 7168 n b high, no_messages)

-- ---- the cluster line

module _ (m : Memory) (l : List ℕ) (n b : ℕ) where
  zero_created : Sized m → lines.create_cluster (state_in m (lines.initial_state).tally) (lines.cluster n b) ≡ result_of (lines.initial_state).tally (created_run m l n b)
  unfolding lines.create_cluster result_by created_run answers_at each
  zero_created sized = go (within max_servers n) refl (within max_buckets b) refl
    where
      go : (x : Bool) → within max_servers n ≡ x → (y : Bool) → within max_buckets b ≡ y
          → lines.create_cluster (state_in m (lines.initial_state).tally) (lines.cluster n b) ≡ result_of (lines.initial_state).tally (created_run m l n b)
      go false p y q = rw (lines.create_cluster, created_run, p)
      go true p false q = rw (lines.create_cluster, created_run, p, q)
      go true p true q =
          let (low, high) = within_parts max_servers n p in
          let (some-there, few) = within_parts max_buckets b q in
          rw (lines.create_cluster, created_run, p, q, fresh_cluster_lem m n b sized low high some-there few)

  pub created_means : Sized m → (t : lines.Tally) → t ≡ (lines.initial_state).tally → standing (counts_at m.counts) ≡ false
      → lines.perform (state_in m t) (lines.cluster n b) ≡ result_of t (cluster_run m l n b)
  unfolding lines.perform_up_to cluster_run
  created_means sized t fresh none-stands = rw (lines.perform_up_to, cluster_run, no_cluster m none-stands, none-stands, fresh) (zero_created sized)

  pub second_cluster : (t : lines.Tally) → standing (counts_at m.counts) ≡ true → lines.perform (state_in m t) (lines.cluster n b) ≡ result_of t (cluster_run m l n b)
  unfolding lines.perform_up_to lines.in_cluster_up_to lines.conditions_up_to lines.first_of cluster_run result_by
  second_cluster t stands = rw (lines.perform_up_to, cluster_run, standing_cluster m stands, stands)
