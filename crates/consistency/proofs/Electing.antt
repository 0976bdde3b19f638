-- Elections: a server stands under a number of its own, and with a majority of votes it has won that number.
use mathlib.Core.Path.{◌≡◌, refl, sym, ◌∙◌, ap}
use mathlib.Core.Logic.{◌⊎◌, inl, inr}
use mathlib.Core.List.Memᴰ
use mathlib.Core.List.{List, [], ◌∷◌}
use mathlib.Core.Bool.{Bool, true, false}
use mathlib.Core.Option.{Option, none}
use Prim.Native.Nat.{ℕ, zero, suc, ◌≤◌, ◌<◌}
use native.Mathlib.Omega.{arith}
use lib.Dec.{leb, eqb}
use lib.ListN.{length, get_or, set, length-set, get_or-map}
use borrow.Author.Tests.{leb-true, eqb-true}
use Rattle.entries.specs.Entries.{Entry}
use Rattle.model.specs.Measures.{majority}
use Rattle.model.specs.Cluster.{Version, Copy, Stored, copy_at, Role, follower, candidate, leading, Round, Call, Volatile, Server, please_vote, ack_vote, Message}
use Rattle.model.specs.Replica.{voting}
use Rattle.model.specs.Leader.{no_reaction, with_stored, with_volatile, broadcast, ceased, cease, votes_for, standing, next_number, raised_to, elect, on_ack_vote}
use Rattle.model.proofs.Elections.{above_the_number, above_the_vote, stood, always_stands}
use Rattle.history.specs.Members.{◌∈◌}
use Rattle.history.proofs.MemberLaws.{first_in, none_in, each_cons}
use Rattle.history.proofs.Quorum.{count}
use Rattle.consistency.proofs.Majorities.{passing, passing_majority, passing_passes}
use Rattle.consistency.proofs.Log.{Win, Write, Log}
use Rattle.consistency.proofs.Claims.{Won, Holds, later, Chosen, BodyOk, MessageOk}
use Rattle.consistency.proofs.Claims
use Rattle.consistency.proofs.Invariant.{LogOk, StoredOk, BucketOk, Idle, Numbered, RoleOk, Shape, ServerOk}
use Rattle.consistency.proofs.Growth.{won_grows, holds_grows, one_winner}
use Rattle.consistency.proofs.Broadcast.{each_of_broadcast}
use Rattle.consistency.proofs.Acts.{add_vote, add_win, Kept}
use Rattle.consistency.proofs.Added.{adds_vote, adds_win}
use Rattle.consistency.proofs.Extend.{win_added}
use Rattle.consistency.proofs.Chaining.{unmoved, sending, grown_before, followed}
use Rattle.consistency.proofs.Ceasing.{as_unsettled, ceased_idle, cease_kept}
use Rattle.consistency.proofs.Voting.{fresh_vote, vote_stored, vote_fact}

-- ---- votes had

votes_counted : (l : List Bool) → votes_for l ≡ count (λ x. x) l
unfolding votes_for count
votes_counted [] = refl
votes_counted (true ∷ l) = let ih = votes_counted l in omega arith
votes_counted (false ∷ l) = let ih = votes_counted l in omega arith

-- a vote that is had after one was noted is that one, or was had before
vote_noted : (l : List Bool) (q : ℕ) (x : Bool) (k : ℕ) → get_or (set l q x) k false ≡ true → ((k ≡ q) × (x ≡ true)) ⊎ (get_or l k false ≡ true)
vote_noted [] q x k e = inr e
vote_noted (y ∷ l) zero x zero e = inl (refl, e)
vote_noted (y ∷ l) zero x (suc k) e = inr e
vote_noted (y ∷ l) (suc q) x zero e = inr e
vote_noted (y ∷ l) (suc q) x (suc k) e = elim (vote_noted l q x k e) [ inl h ↦ inl (ap suc h.0, h.1) | inr h ↦ inr h ]

-- ---- a server that stands

-- a server may stand with these votes: it voted under its own number, which it has not won, and the votes are in the log
pub record MayStand (n buckets : ℕ) (log : Log) (p : ℕ) (s : Server) (votes : List Bool) : Type 0 where
  pub shape : Shape n buckets s
  pub stored : StoredOk log p s.stored
  pub idle : Idle s.volatile
  pub vote : s.stored.vote ≡ s.stored.number
  pub positive : 1 ≤ s.stored.number
  pub unwon : (x : Win) → x ∈ log.wins → x.election ≡ s.stored.number → x.leader ≡ p → ⊥
  pub each : length votes ≡ n
  pub had : (q : ℕ) → get_or votes q false ≡ true → record { server = q; election = s.stored.number; leader = p } ∈ log.votes

module _ (n buckets now taken p : ℕ) (log : Log) (ok : LogOk n now taken log) (s : Server) (votes : List Bool) (h : MayStand n buckets log p s votes) where
  abbrev the_win : Win
  the_win = record { election = s.stored.number; leader = p; members = passing (λ x. x) votes; line = now }

  win_fact : majority n ≤ votes_for votes → LogOk n now taken (add_win the_win log)
  win_fact most =
      win_added ok the_win refl
      (passing_majority (λ x. x) n votes (omega (arith, h.each)) (omega (arith, votes_counted votes)))
      (λ q m. h.had q (passing_passes (λ x. x) votes q m false))

  win_stored : StoredOk (add_win the_win log) p s.stored
  win_stored =
      let k = h.stored in
      record {
        number = k.number;
        votes = k.votes;
        voted = λ l. elim (k.voted l) [ inl x ↦ inl x | inr x ↦ inr (won_grows (adds_win log the_win).grows x) ];
        wins = each_cons (λ e. omega arith) (λ x m e. k.wins x m e);
        copies = λ b. (holds_grows (adds_win log the_win).grows (k.copies b).0, (k.copies b).1);
        accepts = k.accepts;
        reports = k.reports;
      }

  won_now : Won (add_win the_win log) s.stored.number p
  won_now = record { win = the_win; had = first_in; election = refl; leader = refl }

  -- nobody wrote under the number before it was won
  unwritten_yet : majority n ≤ votes_for votes → (w : Write) → w ∈ log.writes → w.at.election ≡ s.stored.number → ⊥
  unwritten_yet most w m e =
      let y = ok.writes.won w m in
      let theirs : Won (add_win the_win log) s.stored.number y.0.leader = record { win = y.0; had = Memᴰ.tail y.1; election = y.2 ∙ e; leader = refl } in
      h.unwon y.0 y.1 (y.2 ∙ e) (one_winner n (win_fact most).votes theirs won_now)

  copy_chosen : majority n ≤ votes_for votes → (b : ℕ) (x : Version) (t : List Entry) → Holds log b x t → x.election ≡ s.stored.number → Chosen n (add_win the_win log) b x
  copy_chosen most b x t (Claims.Holds.first e f) i = Claims.Chosen.first e
  copy_chosen most b x t (later w m e f g) i = absurd (unwritten_yet most w m (ap (λ v. v.election) f ∙ i))

  idle_bucket : (b : ℕ) (r : Option Round) (c : Option Call) (copy : Copy) → r ≡ none → c ≡ none
      → (copy.version.election ≡ s.stored.number → Chosen n (add_win the_win log) b copy.version)
      → BucketOk n (add_win the_win log) p s.stored.number b copy r c
  idle_bucket b r c copy e f k = rw (e, f) k

  -- nor opened a round under it
  no_round_lem : Numbered (add_win the_win log) p s.stored s.volatile
  no_round_lem o m i f = let w = ok.rounds.won o m in absurd (h.unwon w.win w.had (w.election ∙ f) (w.leader ∙ i))

  leads : majority n ≤ votes_for votes → RoleOk n (add_win the_win log) p s.stored s.volatile leading
  leads most = (
    won_now,
    h.vote,
    h.positive,
    λ b. record {
      recovered = λ i w m j e. absurd (unwritten_yet most w m e);
      unrecovered = λ i w m j e. unwritten_yet most w m e;
    },
    λ b. idle_bucket b _ _ (copy_at s.stored b) (h.idle b).0 (h.idle b).1 (copy_chosen most b _ _ (h.stored.copies b).0),
    no_round_lem,
  )

  -- leader with a majority of votes, candidate with fewer
  pub stands_kept : Kept n buckets now taken p log (no_reaction (with_volatile s (standing n votes s.volatile)))
  unfolding standing
  stands_kept = go (leb (majority n) (votes_for votes)) refl
    where
      go : (t : Bool) → leb (majority n) (votes_for votes) ≡ t → Kept n buckets now taken p log (no_reaction (with_volatile s (record {
        role = elim t [ true ↦ leading | false ↦ candidate ];
        votes = votes;
        last_round = s.volatile.last_round;
        rounds = s.volatile.rounds;
        calls = s.volatile.calls;
      })))
      go true e =
          grown_before (adds_win log the_win) refl refl (unmoved (win_fact (leb-true _ _ e)) (record {
            shape = record { copies = h.shape.copies; votes = h.each; rounds = h.shape.rounds; calls = h.shape.calls };
            stored = win_stored;
            role = leads (leb-true _ _ e);
          }) [] (λ m k. none_in k))
      go false e =
          unmoved ok (record {
            shape = record { copies = h.shape.copies; votes = h.each; rounds = h.shape.rounds; calls = h.shape.calls };
            stored = h.stored;
            role = (h.idle, h.vote, h.positive, h.unwon, h.had);
          }) [] (λ m k. none_in k)

-- ---- a vote arrives

module _ (n buckets now taken p : ℕ) (log : Log) (ok : LogOk n now taken log) (s : Server) (agrees : ServerOk n buckets log p s)
    (m : Message) (here : m.receiver ≡ p) (good : MessageOk buckets log m) where
  -- a candidate notes the vote, which is in the log since it has not won
  noted : s.volatile.role ≡ candidate → m.body ≡ ack_vote → m.election ≡ s.stored.number
      → MayStand n buckets log p s (set s.volatile.votes m.sender true)
  noted e body f =
      let c : RoleOk n log p s.stored s.volatile candidate = rw e at agrees.role in
      let claim : BodyOk buckets log m ack_vote = rw body at good.claim in
      record {
        shape = agrees.shape;
        stored = agrees.stored;
        idle = c.0;
        vote = c.1;
        positive = c.2;
        unwon = c.3;
        each = length-set s.volatile.votes m.sender true ∙ agrees.shape.votes;
        had = λ q i. elim (vote_noted s.volatile.votes m.sender true q i) [
          | inl k ↦
              elim claim [
                | inl v ↦ rw (k.0, ← f, ← here) v
                | inr w ↦ absurd (c.3 w.win w.had (w.election ∙ f) (w.leader ∙ here))
              ]
          | inr k ↦ c.4 q k
        ];
      }

  pub ackvote_kept : m.body ≡ ack_vote → Kept n buckets now taken p log (on_ack_vote n m.sender m.election s)
  unfolding on_ack_vote
  ackvote_kept body = go s.volatile.role refl
    where
      same : Kept n buckets now taken p log (no_reaction s)
      same = unmoved ok agrees [] (λ x i. none_in i)

      counts : s.volatile.role ≡ candidate → (t : Bool) → eqb m.election s.stored.number ≡ t → Kept n buckets now taken p log (elim t [
        | false ↦ no_reaction s
        | true ↦ no_reaction (with_volatile s (standing n (set s.volatile.votes m.sender true) s.volatile))
      ])
      counts e false f = same
      counts e true f = stands_kept n buckets now taken p log ok s _ (noted e body (eqb-true _ _ f))

      go : (r : Role) → s.volatile.role ≡ r → Kept n buckets now taken p log (elim r [
        | follower ↦ no_reaction s
        | leading ↦ no_reaction s
        | candidate ↦
            elim (eqb m.election s.stored.number) [
              | false ↦ no_reaction s
              | true ↦ no_reaction (with_volatile s (standing n (set s.volatile.votes m.sender true) s.volatile))
            ]
      ])
      go follower e = same
      go leading e = same
      go candidate e = counts e _ refl

-- ---- an election

-- a server that neither leads nor stands takes a number e above its own and above its vote, votes for itself, and stands
module _ (n buckets now taken p : ℕ) (log : Log) (ok : LogOk n now taken log) (s : Server) (agrees : ServerOk n buckets log p s)
    (idle : Idle s.volatile) (unset : (q : ℕ) → get_or s.volatile.votes q false ≡ true → ⊥)
    (e : ℕ) (over : s.stored.number < e) (fresh : s.stored.vote < e) where
  -- the server has won nothing above its number
  not_above : (x : Win) → x ∈ log.wins → x.election ≡ e → x.leader ≡ p → ⊥
  not_above x m i f = omega (arith, agrees.stored.wins x m f)

  abbrev voted_log : Log
  voted_log = add_vote (fresh_vote p e p) log

  abbrev voted : Stored
  voted = voting e p (raised_to e s.stored)

  may_stand : MayStand n buckets voted_log p (with_stored s voted) (set s.volatile.votes p true)
  may_stand =
      record {
        shape = record { copies = agrees.shape.copies; votes = agrees.shape.votes; rounds = agrees.shape.rounds; calls = agrees.shape.calls };
        stored = vote_stored p e p log agrees.stored e (omega arith) (omega arith) fresh;
        idle = idle;
        vote = refl;
        positive = omega arith;
        unwon = not_above;
        each = length-set s.volatile.votes p true ∙ agrees.shape.votes;
        had = λ q i. elim (vote_noted s.volatile.votes p true q i) [ inl k ↦ rw k.0 first_in | inr k ↦ absurd (unset q k) ];
      }

  requests_ok : (next : Log) (m : Message) → m ∈ broadcast n p 0 e 0 please_vote → MessageOk buckets next m
  requests_ok next = each_of_broadcast (MessageOk buckets next) n p 0 e 0 please_vote
      (λ q d. record { apart = λ i. d (sym i); positive = omega arith; claim = tt })

  stand_kept : Kept n buckets now taken p log (stood n p e (with_stored s voted))
  stand_kept =
      sending
      (grown_before (adds_vote log (fresh_vote p e p)) refl refl
      (stands_kept n buckets now taken p voted_log (vote_fact p e p log ok agrees.stored fresh) (with_stored s voted) _ may_stand))
      _ (requests_ok _)

ceased_unset : (w : Volatile) (q : ℕ) → get_or (ceased w).votes q false ≡ true → ⊥
unfolding ceased
ceased_unset w q e = let z : ◌≡◌ {A = ℕ} 0 1 = cc (get_or-map (λ x. false) w.votes q false) in omega arith

module _ (n buckets now taken p : ℕ) (log : Log) (ok : LogOk n now taken log) (s : Server) (agrees : ServerOk n buckets log p s) where
  -- the server ceases to lead or to stand, and then does the above
  pub elect_kept : Kept n buckets now taken p log (elect n p s)
  unfolding cease ceased
  elect_kept =
      let k : Kept n buckets now taken p log (cease s) = cease_kept n buckets now taken p log ok s (as_unsettled agrees) in
      rw (always_stands n p s)
      (followed k
      (stand_kept n buckets now taken p k.next k.facts (cease s).server k.server (ceased_idle s.volatile) (ceased_unset s.volatile)
      (next_number s.stored) (above_the_number s.stored) (above_the_vote s.stored)))
