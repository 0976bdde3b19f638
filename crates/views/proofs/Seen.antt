-- A server read from the memory, part by part: its head, and at each bucket the records of its slot.
use mathlib.Core.Path.{◌≡◌, refl}
use mathlib.Core.Option.{none}
use Prim.Native.Nat.{ℕ, ◌<◌}
use lib.ListN.{length, get_or}
use Rattle.model.specs.Cluster as cluster
use Rattle.model.specs.Leader.{larger_number}
use Rattle.server.specs.Heads.{larger_number_of}
use Rattle.server.specs.Views.{flag_in, role_in, copy_in, round_in, call_in}
use Rattle.memory.specs.Layout.{slot_of, head_at, round_at, call_at, version_at}
use Rattle.cells.specs.Cells.{Cell, Inside}
use Rattle.moves.specs.Reactions.{Seen, best_in}
use Rattle.views.specs.Memory.{Memory, table_at, local_at, call_words_at, cell_at, server_at, servers_at}
use Rattle.views.proofs.Each.{length_each, get_or_each, length_parts, get_or_parts}

-- ---- the servers

module _ (n most : ℕ) (m : Memory) where
  pub length_servers : length (servers_at n most m) ≡ n
  unfolding servers_at
  length_servers = length_each n (λ s. server_at n most m s)

  pub server_there : (s : ℕ) (d : cluster.Server) → s < n → get_or (servers_at n most m) s d ≡ server_at n most m s
  unfolding servers_at
  server_there s d h = get_or_each n (λ s. server_at n most m s) s d h

-- ---- the head of a server

module _ (n most : ℕ) (m : Memory) (s : ℕ) where
  pub stopped_there : (server_at n most m s).stopped ≡ flag_in (head_at m.heads s).stopped
  unfolding server_at
  stopped_there = refl

  pub role_there : (server_at n most m s).volatile.role ≡ role_in (head_at m.heads s).role
  unfolding server_at
  role_there = refl

  pub larger_there : larger_number (server_at n most m s).stored ≡ larger_number_of (head_at m.heads s)
  unfolding server_at
  larger_there = refl

-- ---- a bucket of a server

module _ (n most : ℕ) (m : Memory) (s b : ℕ) (h : b < most) where
  cells : ℕ → Cell
  cells b = cell_at n m s (slot_of s b)

  pub copy_there : cluster.copy_at (server_at n most m s).stored b ≡ copy_in (version_at m.slots (slot_of s b)) (table_at m.copies (slot_of s b))
  unfolding server_at cell_at cells
  copy_there = get_or_parts most cells (λ c. c.copy) b cluster.fresh_copy h

  pub round_there : cluster.round_at (server_at n most m s).volatile b ≡ round_in n (round_at m.slots (slot_of s b)) (best_in (round_at m.slots (slot_of s b)) (table_at m.working (slot_of s b)))
  unfolding server_at cell_at cells
  round_there = get_or_parts most cells (λ c. c.round) b none h

  pub call_there : cluster.call_at (server_at n most m s).volatile b ≡ call_in (call_at m.slots (slot_of s b)) (call_words_at m (slot_of s b))
  unfolding server_at cell_at cells
  call_there = get_or_parts most cells (λ c. c.call) b none h

  inside : Inside (server_at n most m s) b
  unfolding server_at cells
  inside =
      record {
        copies = rw (length_parts most cells (λ c. c.copy)) h;
        rounds = rw (length_parts most cells (λ c. c.round)) h;
        calls = rw (length_parts most cells (λ c. c.call)) h;
      }

  votes_size : length (head_at m.heads s).votes ≡ 7
  unfolding head_at
  votes_size = refl

  pub server_seen : Seen n b (server_at n most m s) (local_at m s (slot_of s b)) (table_at m.copies (slot_of s b)) (table_at m.working (slot_of s b)) (call_words_at m (slot_of s b))
  unfolding server_at
  server_seen = record { inside = inside; front = refl; cell = rw (copy_there, round_there, call_there); votes = votes_size }
