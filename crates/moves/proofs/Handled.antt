-- The handling of a message as a move, by its kind.
use mathlib.Core.Path.{◌≡◌, refl, sym, ap, ◌∙◌}
use mathlib.Core.Bool.{Bool, true, false}
use mathlib.Core.List.{List, []}
use Prim.Native.Nat.{ℕ, zero, suc, ◌<◌, ◌≤◌}
use native.Mathlib.Omega.{arith}
use borrow.Author.Tests.{ne_eqb}
use lib.Dec.{eqb}
use Rattle.entries.specs.Entries.{Entry}
use Rattle.model.specs.Calls as calls
use Rattle.model.specs.Cluster as cluster
use Rattle.model.specs.Replica as replica
use Rattle.model.specs.Leader.{Reaction, no_reaction, on_please_vote, on_ack_vote, on_request, on_reply, handle}
use Rattle.server.specs.declared.Version.{Version}
use Rattle.server.specs.declared.Message.{Message}
use Rattle.server.specs.declared.Handling.TheVariants.{Reply, Other}
use Rattle.server.specs.Views.{copy_in, mark_in, among}
use Rattle.rounds.specs.Rounds.{pick_version, no_version, pick_table}
use Rattle.rounds.specs.Kinds.{handling_in}
use Rattle.rounds.proofs.KindLaws.{past_votes}
use Rattle.moves.specs.declared.Local.{Local}
use Rattle.moves.specs.Moves.{reply_move, voting_move, handling_move, handled_move}
use Rattle.moves.specs.Reactions.{Seen, Tables, body_in, message_in, asked_in, reaction_in}
use Rattle.moves.proofs.Ceasing.{quiet_means}
use Rattle.moves.proofs.VoterMoves.{vote_means, read_means, write_means}
use Rattle.moves.proofs.LineMoves.{ack_vote_means}

-- the definition's cases
abbrev handle_by : ℕ → ℕ → cluster.Message → cluster.Server → cluster.Body → Reaction
handle_by n me m s body =
    elim body [
      | cluster.please_vote ↦ on_please_vote me m s
      | cluster.ack_vote ↦ on_ack_vote n m.sender m.election s
      | cluster.nack_vote ↦ no_reaction s
      | cluster.replica_write c ↦ on_request me m (replica.writing c) s
      | cluster.ack_write ↦ on_reply n me m cluster.acknowledged cluster.fresh_copy s
      | cluster.nack_write ↦ on_reply n me m cluster.refused cluster.fresh_copy s
      | cluster.replica_read ↦ on_request me m replica.reading s
      | cluster.ack_read c ↦ on_reply n me m cluster.acknowledged c s
      | cluster.nack_read ↦ on_reply n me m cluster.refused cluster.fresh_copy s
    ]

-- a kind past the nine is none of them
none_of_nine : (k : ℕ) → 9 < k → (j : ℕ) → j ≤ 9 → eqb k j ≡ false
none_of_nine k h j i = ne_eqb k j (λ e. absurd (omega arith))

other_body : (k : ℕ) (w : Version) (u : List Entry) → 9 < k → body_in k w u ≡ cluster.nack_vote
unfolding body_in
other_body k w u h =
    let n = none_of_nine k h in
    rw (body_in, n 1 (omega arith), n 2 (omega arith), n 4 (omega arith), n 5 (omega arith), n 6 (omega arith), n 7 (omega arith), n 8 (omega arith), n 9 (omega arith))

other_handling : (k : ℕ) → 9 < k → handling_in k ≡ Other
unfolding handling_in
other_handling k h =
    let n = none_of_nine k h in
    let votes = past_votes k (omega arith) (omega arith) in
    rw (handling_in, votes, n 4 (omega arith), n 5 (omega arith), n 6 (omega arith), n 7 (omega arith), n 8 (omega arith), n 9 (omega arith))

module _ (n me b result : ℕ) (x : Message) (s : cluster.Server) (l : Local) (t : Tables) (words : calls.Words) (v : List ℕ) (u : List Entry) where
  -- what the law of replies says of this message
  abbrev pub ReplyMeans : Type 0
  ReplyMeans =
      (mark : ℕ) (reports : Bool) → handling_in x.kind ≡ Reply mark reports
      → on_reply n me (message_in x t.message) (mark_in mark) (copy_in (pick_version reports x.version no_version) (pick_table reports t.message [])) s
      ≡ reaction_in n me b (asked_in x) (reply_move n me result mark (pick_version reports x.version no_version) x l) t words v u s

  module _ (seen : Seen n b s l t.copy t.work words) (same : b ≡ x.bucket) (replies : ReplyMeans) where
    -- what is to be shown of kind k
    abbrev Handled : ℕ → Type 0
    Handled k =
        handle_by n me (message_in x t.message) s (body_in k x.version t.message)
        ≡ reaction_in n me b (asked_in x) (handling_move n me result x l (handling_in k)) t words v u s

    others_handled : (k : ℕ) → 9 < k → Handled k
    unfolding handling_move
    others_handled k h =
        ap (handle_by n me (message_in x t.message) s) (other_body k x.version t.message h)
        ∙ (quiet_means n me b (asked_in x) s l t words v u seen
        ∙ ap (λ g. reaction_in n me b (asked_in x) (handling_move n me result x l g) t words v u s) (sym (other_handling k h)))

    rounds_handled : (k : ℕ) → x.kind ≡ suc (suc (suc (suc k))) → Handled (suc (suc (suc (suc k))))
    unfolding body_in handling_in among handling_move mark_in pick_version pick_table
    rounds_handled zero e = write_means n me b x s l t words v u seen same
    rounds_handled (suc zero) e = replies 1 false (ap handling_in e)
    rounds_handled (suc (suc zero)) e = replies 2 false (ap handling_in e)
    rounds_handled (suc (suc (suc zero))) e = read_means n me b x s l t words v u seen same
    rounds_handled (suc (suc (suc (suc zero)))) e = replies 1 true (ap handling_in e)
    rounds_handled (suc (suc (suc (suc (suc zero))))) e = replies 2 false (ap handling_in e)
    rounds_handled (suc (suc (suc (suc (suc (suc k)))))) e = others_handled (suc (suc (suc (suc (suc (suc (suc (suc (suc (suc k)))))))))) (omega arith)

    kinds_handled : (k : ℕ) → x.kind ≡ k → Handled k
    unfolding body_in handling_in among handling_move voting_move
    kinds_handled zero e = quiet_means n me b (asked_in x) s l t words v u seen
    kinds_handled (suc zero) e = vote_means n me b x s l t words v u seen
    kinds_handled (suc (suc zero)) e = ack_vote_means n me b (asked_in x) s l t words v u seen x.sender x.election
    kinds_handled (suc (suc (suc zero))) e = quiet_means n me b (asked_in x) s l t words v u seen
    kinds_handled (suc (suc (suc (suc k)))) e = rounds_handled k e

    pub handled_means : handle n me (message_in x t.message) s ≡ reaction_in n me b (asked_in x) (handled_move n me result x l) t words v u s
    unfolding handle handled_move
    handled_means = kinds_handled x.kind refl
