-- A start as a move.
use mathlib.Core.Path.{◌≡◌, sym, ap, ◌∙◌}
use mathlib.Core.Bool.{false}
use mathlib.Core.List.{List, []}
use Prim.Native.Nat.{ℕ}
use Rattle.entries.specs.Entries.{Entry}
use Rattle.model.specs.Calls as calls
use Rattle.model.specs.Cluster as cluster
use Rattle.model.specs.Leader.{reaction, no_reaction, ceased, forgotten, cease}
use Rattle.model.specs.Lines.{restarted}
use Rattle.server.specs.Views.{beside_in, flag_in}
use Rattle.server.proofs.HeadLaws as heads
use Rattle.moves.specs.declared.Local.{Local}
use Rattle.moves.specs.Reactions.{Seen, Tables, work_after, copy_after, Asked, sends_in, server_after, answers_after, reaction_in}
use Rattle.moves.proofs.Ceasing.{placed, seen_itself}
use Rattle.restarts.specs.Restarts.{restarted_move}

module _ (n me b : ℕ) (a : Asked) (s : cluster.Server) (l : Local) (t : Tables) (words : calls.Words) (v : List ℕ) (u : List Entry) (seen : Seen n b s l t.copy t.work words) where
  -- the server ceases to lead, with nobody told, and then its rounds are numbered from 1 again
  pub restarted_means : reaction (restarted s) [] [] ≡ reaction_in n me b a (restarted_move l) t words v u s
  unfolding server_after answers_after sends_in work_after copy_after restarted_move forgotten cease ceased flag_in
  restarted_means =
      let s1 = placed n b l t words s in
      let again : cluster.Server → cluster.Server =
      λ z. record {
        stored = z.stored;
        volatile = record { role = z.volatile.role; votes = z.volatile.votes; last_round = 0; rounds = z.volatile.rounds; calls = z.volatile.calls };
        stopped = false;
      } in
      ap (λ z. no_reaction (restarted z)) (seen_itself n b s l t words seen)
      ∙ ap (λ z. no_reaction (again z)) (sym (heads.ceased_means n (beside_in s1) l.head seen.votes))
