-- What others ask of a server, as a voter and as a replica: votes, reads and writes as moves.
use mathlib.Core.Path.{◌≡◌, refl, sym, ap, ap₂, ◌∙◌}
use mathlib.Core.Bool.{Bool, true, false, cond}
use mathlib.Core.List.{List, [], ◌∷◌}
use Prim.Native.Nat.{ℕ}
use lib.ListN.{set}
use Rattle.entries.specs.Entries.{Entry}
use Rattle.model.specs.Calls as calls
use Rattle.model.specs.Cluster as cluster
use Rattle.model.specs.Cluster.{copy_at}
use Rattle.model.specs.Replica.{grants, may_accept, Request, reading, writing, accepting, acknowledging, refusing}
use Rattle.model.specs.Leader.{Reaction, reaction, with_stored, step_down, replying, reply_to, on_please_vote, on_request}
use Rattle.cells.proofs.Laws.{copy_there, accepted_is}
use Rattle.cells.specs.Moves.{keeping}
use Rattle.server.specs.declared.Message.{Message}
use Rattle.server.specs.Views.{beside_in, stored_in, copy_in, chosen}
use Rattle.server.specs.Heads.{voting_head, after_vote_head}
use Rattle.server.proofs.HeadLaws.{after_vote_means}
use Rattle.rounds.specs.Rounds.{pick_version, no_version}
use Rattle.moves.specs.declared.Keeping.TheVariants as keeping
use Rattle.moves.specs.declared.Local.{Local}
use Rattle.moves.specs.Moves.{with_head, sending, stepped_down, stores, vote_move, read_request_move, write_request_move, request_move}
use Rattle.moves.specs.Reactions.{front_in, cell_in, Seen, Tables, work_after, copy_after, body_in, message_in, Asked, asked_in, reply_in}
use Rattle.moves.specs.Reactions.{sends_in, answers_in, moved_server, server_after, answers_after, reaction_in}
use Rattle.moves.proofs.Ceasing.{placed, seen_itself, calls_kept, reply_with, stepped_down_means}

-- the reply to PLEASEVOTE, by whether the vote is given
vote_reply : (n me b : ℕ) (a : Asked) (l : Local) (t : Tables) (z : Bool)
    → reply_in me a (elim z [ true ↦ cluster.ack_vote | false ↦ cluster.nack_vote ]) ∷ [] ≡ sends_in n me b a (sending (chosen z 2 3) no_version l) t
unfolding sends_in body_in chosen
vote_reply n me b a l t true = refl
vote_reply n me b a l t false = refl

-- the copy that a replica keeps of a write, by whether it is stored
kept_copy : (x : Message) (l : Local) (t : Tables) (z : Bool)
    → ◌≡◌ {A = cluster.Copy}
    (elim z [ true ↦ copy_in x.version t.message | false ↦ copy_in l.version t.copy ])
    (copy_in (pick_version z x.version l.version) (copy_after (reply_with 5 no_version (cond z keeping.Message keeping.Stays) l) t))
unfolding pick_version copy_after
kept_copy x l t true = refl
kept_copy x l t false = refl

module _ (n me b : ℕ) (x : Message) (s : cluster.Server) (l : Local) (t : Tables) (words : calls.Words) (v : List ℕ) (u : List Entry)
    (seen : Seen n b s l t.copy t.work words) where
  pub vote_means : on_please_vote me (message_in x t.message) s ≡ reaction_in n me b (asked_in x) (vote_move x l) t words v u s
  unfolding on_please_vote vote_move grants after_vote_head work_after copy_after
  vote_means =
      let s1 = placed n b l t words s in
      let h1 = after_vote_head x.election x.sender l.head in
      let given = grants x.election x.sender (stored_in l.head []) in
      let after = after_vote_means x.election x.sender n (beside_in s1) l.head in
      ap (on_please_vote me (message_in x t.message)) (seen_itself n b s l t words seen)
      ∙ (ap₂ (λ z ms. reaction (step_down z).server ms (step_down z).answers) (sym after) (vote_reply n me b (asked_in x) (with_head h1 l) t given)
      ∙ stepped_down_means n me b (asked_in x) s t words v u (chosen given 2 3) no_version keeping.Stays (with_head h1 l) seen.votes (calls_kept n b s l t words seen))

  -- the request under the message's number is refused
  abbrev refused_by : Request → Reaction
  refused_by q = reaction (placed n b l t words s) (reply_to me (message_in x t.message) (refusing q) ∷ []) []

  -- or accepted
  abbrev accepted_by : Request → Reaction
  accepted_by q =
      let s1 = placed n b l t words s in
      let st = accepting x.bucket x.election x.sender q s1.stored in
      replying (step_down (with_stored s1 st)) (reply_to me (message_in x t.message) (acknowledging x.bucket q st))

  copy_read : b ≡ x.bucket → copy_at (placed n b l t words s).stored x.bucket ≡ copy_in l.version t.copy
  copy_read same = rw (← same) (copy_there s b seen.inside (front_in n l.head) (cell_in n l t.copy t.work words))

  -- a read that is accepted, with the copy that it reports
  abbrev reporting : cluster.Copy → Reaction
  reporting c =
      let r = step_down (moved_server n b (read_request_move x l) t words s) in
      reaction r.server (reply_in me (asked_in x) (cluster.ack_read c) ∷ []) r.answers

  read_accepted : b ≡ x.bucket → accepted_by reading ≡ reaction_in n me b (asked_in x) (stepped_down (read_request_move x l)) t words v u s
  unfolding accepting acknowledging work_after copy_after sends_in body_in
  read_accepted same =
      ap reporting (copy_read same)
      ∙ stepped_down_means n me b (asked_in x) s t words v u 8 l.version keeping.Stays (with_head (voting_head x.election x.sender l.head) l) seen.votes (calls_kept n b s l t words seen)

  write_stored : b ≡ x.bucket
      → accepting x.bucket x.election x.sender (writing (copy_in x.version t.message)) (placed n b l t words s).stored
      ≡ (moved_server n b (write_request_move x l) t words s).stored
  unfolding keeping work_after copy_after
  write_stored same =
      rw (← same)
      (accepted_is s b seen.inside x.election x.sender (writing (copy_in x.version t.message)) (front_in n l.head) (cell_in n l t.copy t.work words)
      ∙ ap (λ c. record { number = l.head.number; vote = x.election; leader = x.sender; copies = set s.stored.copies b c }) (kept_copy x l t (stores x.version l)))

  -- a write that is accepted, with what its replica then stores
  abbrev acknowledging_with : cluster.Stored → Reaction
  acknowledging_with st =
      let r = step_down (with_stored (placed n b l t words s) st) in
      reaction r.server (reply_in me (asked_in x) cluster.ack_write ∷ []) r.answers

  write_accepted : b ≡ x.bucket
      → accepted_by (writing (copy_in x.version t.message)) ≡ reaction_in n me b (asked_in x) (stepped_down (write_request_move x l)) t words v u s
  unfolding acknowledging work_after sends_in body_in
  write_accepted same =
      ap acknowledging_with (write_stored same)
      ∙ stepped_down_means n me b (asked_in x) s t words v u 5 no_version (cond (stores x.version l) keeping.Message keeping.Stays) (write_request_move x l).local seen.votes (calls_kept n b s l t words seen)

  -- a request is refused below the vote, and accepted otherwise
  request_by : (q : Request) (writes : Bool)
      → refused_by q ≡ reaction_in n me b (asked_in x) (sending (chosen writes 6 9) no_version l) t words v u s
      → accepted_by q ≡ reaction_in n me b (asked_in x) (stepped_down (elim writes [ true ↦ write_request_move x l | false ↦ read_request_move x l ])) t words v u s
      → on_request me (message_in x t.message) q s ≡ reaction_in n me b (asked_in x) (request_move writes x l) t words v u s
  unfolding on_request request_move may_accept
  request_by q writes refusal acceptance =
      ap (on_request me (message_in x t.message) q) (seen_itself n b s l t words seen)
      ∙ elim (may_accept x.election (stored_in l.head [])) as
      (λ z. ◌≡◌ {A = Reaction} (elim z [ false ↦ refused_by q | true ↦ accepted_by q ]) (reaction_in n me b (asked_in x)
      (elim z [ false ↦ sending (chosen writes 6 9) no_version l | true ↦ stepped_down (elim writes [ true ↦ write_request_move x l | false ↦ read_request_move x l ]) ]) t words v u s))
      [ false ↦ refusal | true ↦ acceptance ]

  pub read_means : b ≡ x.bucket → on_request me (message_in x t.message) reading s ≡ reaction_in n me b (asked_in x) (request_move false x l) t words v u s
  unfolding refusing chosen server_after answers_after answers_in sends_in work_after copy_after body_in
  read_means same = request_by reading false refl (read_accepted same)

  pub write_means : b ≡ x.bucket
      → on_request me (message_in x t.message) (writing (copy_in x.version t.message)) s ≡ reaction_in n me b (asked_in x) (request_move true x l) t words v u s
  unfolding refusing chosen server_after answers_after answers_in sends_in work_after copy_after body_in
  write_means same = request_by (writing (copy_in x.version t.message)) true refl (write_accepted same)
