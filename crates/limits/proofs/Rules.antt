-- The rules of a server keep its measures: one lemma for each rule.
use mathlib.Core.Path.{◌≡◌, refl, sym, ◌∙◌, subst}
use mathlib.Core.List.{List, [], ◌∷◌}
use mathlib.Core.Bool.{Bool, true, false}
use mathlib.Core.Option.{Option, none, some}
use mathlib.Core.Logic.{◌≢◌}
use Prim.Native.Nat.{ℕ, zero, suc, ◌+◌, ◌≤◌, ◌<◌}
use native.Mathlib.Omega.{arith}
use native.Mathlib.Decide.{ℕ_discrete}
use lib.Dec.{ltb, leb, eqb}
use lib.ListN.{length, get_or, length-set, length-map, length-replicate, get_or-map}
use lib.ListN
use lib.Seq.{get_or-set_same, get_or-set_other}
use borrow.Author.Tests.{eqb-false}
use Rattle.entries.specs.Entries.{Entry}
use Rattle.model.specs.Measures.{majority}
use Rattle.model.specs.Calls.{Words, bucket_for, Result, done, Effect, answers, writes}
use Rattle.model.specs.Cluster.{version, above, Copy, copy_of, fresh_copy, Stored, copy_at, Role, follower, candidate, leading, Purpose, recovery_read, recovery_write, check, own_write, Mark, silent, acknowledged, refused, Round, Call, Volatile, Server, Body, please_vote, ack_vote, nack_vote, replica_write, ack_write, nack_write, replica_read, ack_read, nack_read, Message, round_at, call_at}
use Rattle.model.specs.Replica.{voting, grants, after_vote, Request, reading, writing, request_body, may_accept, storing, accepting, acknowledging, refusing}
use Rattle.model.specs.Stores.{copy_store, put_store}
use Rattle.model.specs.Lines.{cut_server}
use Rattle.model.specs.Leader.{Reaction, no_reaction, with_stored, with_volatile, below, without, broadcast, ended, ceased, forgotten, cease, step_down, votes_for, standing, stand_for_election, next_number, raised_to, elect, on_ack_vote, closes, fails, one_more, is_own, report_to, new_round, opening, open_round, answer_of, finish, next_version, applying, after_read, checking, recovering, recovered, start_read, start_call, begin_call, closed, better, marked_by, counted, with_round, counting, on_reply, reply_to, on_please_vote, on_request, handle}
use Rattle.model.specs.Leader
use Rattle.model.proofs.Elections.{above_the_number}
use Rattle.model.proofs.FirstRound.{first_round}
use Rattle.model.proofs.Replicas.{step_down_cases}
use Rattle.model.proofs.Stores.{cut_cases}
use Rattle.limits.specs.Lists.{All, nil, cons}
use Rattle.limits.specs.Measures.{Limits, Fits, CopyWithin, StoredWithin, WordsSized, CallWithin, Unread, RoundWithin, SlotWithin, idle, busy, RoleWithin, FrameWithin, ServerWithin, RequestWithin, OfVote, OfRound, BodyWithin, MessageWithin, ResultWithin, AnswerWithin, Ending, AnswersWithin, single, endings, ReactionWithin}
use Rattle.limits.proofs.Lists.{all_imply, all_append, all_set, all_at, all_map}
use Rattle.limits.proofs.Growing.{fewer, copy_grows, stored_grows, frame_grows, call_grows, slot_grows, server_grows}
use Rattle.limits.proofs.Tables.{EffectWithin, effect_within, fresh_copy_within}

-- ---- purposes

-- the rounds that may follow one made for a purpose
abbrev pub left : Purpose → ℕ
left recovery_read = 3
left recovery_write = 2
left check = 1
left own_write = 0

-- ---- roles

-- whoever is no follower has raised its number
pub role_elected : (r : Role) (number : ℕ) → r ≢ follower → RoleWithin r number → 1 ≤ number
role_elected follower number x h = absurd (x refl)
role_elected candidate number x h = h
role_elected leading number x h = h

-- ---- broadcasts

below_less : (n : ℕ) → All (λ q. q < n) (below n)
unfolding below
below_less zero = nil
below_less (suc n) = all_append (all_imply (λ q h. omega arith) (below_less n)) (cons {x = n} (omega arith) nil)

without_apart : {P : ℕ → Type 0} (me : ℕ) {l : List ℕ} → All P l → All (λ q. P q × (me ≢ q)) (without me l)
unfolding without
without_apart me nil = nil
without_apart {P} me (cons {x = q} {l = l} p h) = go (eqb q me) refl (without_apart me h)
  where
    go : (t : Bool) → eqb q me ≡ t → All (λ q. P q × (me ≢ q)) (without me l) → All (λ q. P q × (me ≢ q)) (without me (q ∷ l))
    go true e k = rw (without, e) k
    go false e k = rw (without, e) (cons (p, λ s. eqb-false q me e (sym s)) k)

-- what holds of the message to each other server holds of every message of the broadcast
pub all_broadcast : {P : Message → Type 0} (n me i e k : ℕ) (body : Body) →
    ((q : ℕ) → q < n → me ≢ q → P (record { sender = me; receiver = q; bucket = i; election = e; round = k; body = body })) →
    All P (broadcast n me i e k body)
unfolding broadcast
all_broadcast n me i e k body h = all_map _ (λ q d. h q d.0 d.1) (without_apart me (below_less n))

module _ (n b : ℕ) (l : Limits) where
  broadcast_within : (me i e k : ℕ) (body : Body) → me < n → i < b → 1 ≤ e → e ≤ l.elections →
      ((q : ℕ) → BodyWithin l (record { sender = me; receiver = q; bucket = i; election = e; round = k; body = body }) body) →
      All (MessageWithin n b l) (broadcast n me i e k body)
  broadcast_within me i e k body h j low high w =
      all_broadcast n me i e k body (λ q there apart. record { sender = h; receiver = there; apart = apart; bucket = j; elected = low; election = high; body = w q })

  -- ---- what a server stores

  pub copy_within : {q : ℕ} {st : Stored} (i : ℕ) → i < b → StoredWithin n b l q st → CopyWithin l q (copy_at st i)
  copy_within i h w = all_at i fresh_copy (omega (arith, w.size)) w.copies

  -- stored anew within the limits, under the same number
  record Kept (q number : ℕ) (st : Stored) : Type 0 where
    within : StoredWithin n b l q st
    same : st.number ≡ number

  voting_within : {q : ℕ} {st : Stored} (e p : ℕ) → e ≤ l.elections → p < n → StoredWithin n b l q st →
      StoredWithin n b l q (voting e p st)
  voting_within e p h k w = record { number = w.number; vote = h; leader = k; size = w.size; copies = w.copies }

  after_vote_kept : {q : ℕ} (e p : ℕ) (st : Stored) → e ≤ l.elections → p < n → StoredWithin n b l q st →
      Kept q st.number (after_vote e p st)
  unfolding after_vote
  after_vote_kept {q} e p st h k w = go (ltb st.vote e) refl
    where
      go : (t : Bool) → ltb st.vote e ≡ t → Kept q st.number (after_vote e p st)
      go true d = rw (after_vote, d) (record { within = voting_within e p h k w; same = refl })
      go false d = rw (after_vote, d) (record { within = w; same = refl })

  copied_within : {q : ℕ} (i : ℕ) (c : Copy) (st : Stored) → CopyWithin l q c → StoredWithin n b l q st → StoredWithin n b l q (put_store (copy_store i c) st)
  unfolding put_store
  copied_within i c st new w =
      record { number = w.number; vote = w.vote; leader = w.leader; size = rw length-set w.size; copies = all_set i w.copies new }

  storing_kept : {q : ℕ} (i : ℕ) (c : Copy) (st : Stored) → CopyWithin l q c → StoredWithin n b l q st → Kept q st.number (storing i c st)
  unfolding storing put_store
  storing_kept {q} i c st new w = go (above c.version (copy_at st i).version) refl
    where
      go : (a : Bool) → above c.version (copy_at st i).version ≡ a → Kept q st.number (storing i c st)
      go true d =
          rw (storing, d) (record { within = copied_within i c st new w; same = refl })
      go false d = rw (storing, d) (record { within = w; same = refl })

  accepting_kept : {q : ℕ} (i e p : ℕ) (request : Request) (st : Stored) → e ≤ l.elections → p < n →
      RequestWithin l q e request → StoredWithin n b l q st → Kept q st.number (accepting i e p request st)
  unfolding accepting
  accepting_kept i e p reading st h k r w = record { within = voting_within e p h k w; same = refl }
  accepting_kept i e p (writing c) st h k r w = storing_kept i c (voting e p st) r.1 (voting_within e p h k w)

  with_stored_lem : {q : ℕ} {s : Server} {st : Stored} → Kept q s.stored.number st → ServerWithin n b l q s →
      ServerWithin n b l q (with_stored s st)
  with_stored_lem k w = record { stored = k.within; frame = rw k.same w.frame; slots = λ i h. rw k.same (w.slots i h) }

  -- ---- when leading ends

  -- an open call's number and rounds
  abbrev EndWithin : Option Call → Type 0
  EndWithin none = Unit {0}
  EndWithin (some c) = (1 ≤ c.number) × (c.number ≤ l.calls) × (c.rounds ≤ l.rounds)

  slot_end : {q number i : ℕ} {r : Option Round} {c : Option Call} → SlotWithin n b l q number i r c → EndWithin c
  slot_end idle = tt
  slot_end (busy r c) = (c.first, c.last, omega arith)

  ended_within : (c : Call) → EndWithin (some c) → AnswerWithin l (ended c) × Ending (ended c).result
  unfolding ended
  ended_within c w = go c.sent refl
    where
      go : (t : Bool) → c.sent ≡ t → AnswerWithin l (ended c) × Ending (ended c).result
      go true e = rw (ended, e) (record { first = w.0; last = w.1; rounds = w.2; result = tt }, tt)
      go false e = rw (ended, e) (record { first = w.0; last = w.1; rounds = w.2; result = tt }, tt)

  endings_within : (calls : List (Option Call)) → ((i : ℕ) → i < length calls → EndWithin (get_or calls i none)) →
      All (λ a. AnswerWithin l a × Ending a.result) (Leader.endings calls)
  unfolding Leader.endings
  endings_within [] w = nil
  endings_within (none ∷ calls) w = endings_within calls (λ i h. w (suc i) (omega arith))
  endings_within (some c ∷ calls) w = cons (ended_within c (w 0 (omega arith))) (endings_within calls (λ i h. w (suc i) (omega arith)))

  endings_few : (calls : List (Option Call)) → length (Leader.endings calls) ≤ length calls
  unfolding Leader.endings
  endings_few [] = omega arith
  endings_few (none ∷ calls) = omega (arith, endings_few calls)
  endings_few (some c ∷ calls) = omega (arith, endings_few calls)

  no_answers : AnswersWithin b l []
  no_answers = endings {out = []} (omega arith) nil

  quiet_within : {q : ℕ} {s : Server} → ServerWithin n b l q s → ReactionWithin n b l (no_reaction s)
  quiet_within {q} {s} w = record { server = server_grows (fewer l q 0 (omega arith)) s w; sends = nil; answers = no_answers }

  -- a server that ceased, whatever it stores
  ceased_within : {q : ℕ} {s : Server} (st : Stored) → StoredWithin n b l 0 st → ServerWithin n b l q s →
      ServerWithin n b l 0 (record { stored = st; volatile = ceased s.volatile; stopped = s.stopped })
  unfolding ceased
  ceased_within {q} {s} st k w =
      let v = s.volatile in
      record {
        stored = k;
        frame =
            record {
              votes = rw length-map w.frame.votes;
              rounds = rw length-map w.frame.rounds;
              calls = rw length-map w.frame.calls;
              last_round = omega (arith, w.frame.last_round);
              standing = tt;
            };
        slots = λ i h. rw (get_or-map (λ x. none) v.rounds i none, get_or-map (λ x. none) v.calls i none) idle;
      }

  -- a server that comes back
  pub forgotten_within : {s : Server} {x : Bool} → ServerWithin n b l 0 s →
      ServerWithin n b l 0 (record { stored = s.stored; volatile = forgotten s.volatile; stopped = x })
  unfolding forgotten
  forgotten_within {s} w =
      let c = ceased_within {s = s} s.stored w.stored w in
      let f = c.frame in
      record {
        stored = c.stored;
        frame = record { votes = f.votes; rounds = f.rounds; calls = f.calls; last_round = omega arith; standing = f.standing };
        slots = c.slots;
      }

  -- a server that is stopped after some of its stores
  pub cut_within : (k : ℕ) (m : Message) (s : Server) → MessageWithin n b l m → ServerWithin n b l 0 s → ServerWithin n b l 0 (cut_server k m s)
  cut_within k m s w h =
      let r = with_stored_lem (cut_cases m s.stored (Kept 0 s.stored.number) (same_number h.stored) (λ e i. same_number voted) (λ e i. same_number voted)
      (λ c e i. same_number voted) (λ c e i j. copied c e h.stored) (λ c e i j. copied c e voted) k) h in
      record { stored = r.stored; frame = r.frame; slots = r.slots }
    where
      same_number : {st : Stored} → StoredWithin n b l 0 st → Kept 0 st.number st
      same_number x = record { within = x; same = refl }

      voted : StoredWithin n b l 0 (voting m.election m.sender s.stored)
      voted = voting_within m.election m.sender w.election w.sender h.stored

      copied : (c : Copy) → m.body ≡ replica_write c → {st : Stored} → StoredWithin n b l 0 st → Kept 0 st.number (put_store (copy_store m.bucket c) st)
      copied c e {st} x =
          let body : BodyWithin l m (replica_write c) = subst (BodyWithin l m) e w.body in
          record { within = copied_within m.bucket c st body.2 x; same = unfold put_store in refl }

  endings_of : {q : ℕ} {s : Server} → ServerWithin n b l q s → AnswersWithin b l (Leader.endings s.volatile.calls)
  endings_of {q} {s} w =
      let calls = s.volatile.calls in
      let size : length calls ≡ b = w.frame.calls in
      endings {out = Leader.endings calls} (omega (arith, endings_few calls)) (endings_within calls (λ i h. slot_end (w.slots i (omega arith))))

  pub cease_within : {q : ℕ} {s : Server} → ServerWithin n b l q s → ReactionWithin n b l (cease s)
  unfolding cease
  cease_within {q} {s} w =
      record {
        server = ceased_within s.stored (stored_grows (fewer l q 0 (omega arith)) w.stored) w;
        sends = nil;
        answers = endings_of w;
      }

  -- whichever way a test comes out
  chosen : (t : Bool) {x y : Reaction} → ReactionWithin n b l x → ReactionWithin n b l y →
      ReactionWithin n b l (elim t [ true ↦ x | false ↦ y ])
  chosen true v w = v
  chosen false v w = w

  settle_within : {q : ℕ} {s : Server} → ServerWithin n b l q s → ReactionWithin n b l (step_down s)
  settle_within {q} {s} w = step_down_cases s (ReactionWithin n b l) (λ e f. cease_within w) (λ f. quiet_within w) (λ e. quiet_within w)

  -- ---- elections

  standing_within : {q number : ℕ} {w : Volatile} (votes : List Bool) → length votes ≡ n → 1 ≤ number →
      FrameWithin n b l q number w → FrameWithin n b l q number (standing n votes w)
  unfolding standing
  standing_within {q} {number} {w} votes size e f = record { votes = size; rounds = f.rounds; calls = f.calls; last_round = f.last_round; standing = role (leb (majority n) (votes_for votes)) }
    where
      role : (t : Bool) → RoleWithin (elim t [ true ↦ leading | false ↦ candidate ]) number
      role true = e
      role false = e

  stands_within : (me : ℕ) (s : Server) → me < n → 1 ≤ b → 1 ≤ s.stored.number → ServerWithin n b l 0 s →
      ReactionWithin n b l (stand_for_election n me s.stored.number s)
  unfolding stand_for_election standing
  stands_within me s h j e w =
      let k = after_vote_kept s.stored.number me s.stored w.stored.number h w.stored in
      let votes = ListN.set s.volatile.votes me (grants s.stored.number me s.stored) in
      record {
        server =
            record {
              stored = k.within;
              frame = rw k.same (standing_within votes (rw length-set w.frame.votes) e w.frame);
              slots = λ i d. rw k.same (w.slots i d);
            };
        sends = broadcast_within me 0 s.stored.number 0 please_vote h j e w.stored.number (λ q. (refl, refl));
        answers = no_answers;
      }

  pub elect_within : {q : ℕ} (me : ℕ) (s : Server) → me < n → 1 ≤ b → next_number s.stored ≤ l.elections → ServerWithin n b l q s → ReactionWithin n b l (elect n me s)
  unfolding elect cease
  elect_within {q} me s h j top w =
      let e = next_number s.stored in
      let k = stored_grows (fewer l q 0 (omega arith)) w.stored in
      let new : StoredWithin n b l 0 (raised_to e s.stored) = record { number = top; vote = k.vote; leader = k.leader; size = k.size; copies = k.copies } in
      let g = stands_within me _ h j (omega (arith, above_the_number s.stored)) (ceased_within (raised_to e s.stored) new w) in
      record { server = g.server; sends = g.sends; answers = endings_of w }

  ack_within : {q : ℕ} (p e : ℕ) (s : Server) → ServerWithin n b l q s → (r : Role) → RoleWithin r s.stored.number →
      ReactionWithin n b l (elim r [ follower ↦ no_reaction s | leading ↦ no_reaction s | candidate ↦ elim (eqb e s.stored.number) [ false ↦ no_reaction s | true ↦ no_reaction (with_volatile s (standing n (ListN.set s.volatile.votes p true) s.volatile)) ] ])
  unfolding standing
  ack_within p e s w follower r = quiet_within w
  ack_within p e s w leading r = quiet_within w
  ack_within p e s w candidate r =
      let votes = ListN.set s.volatile.votes p true in
      let f = standing_within votes (rw length-set w.frame.votes) r w.frame in
      chosen (eqb e s.stored.number) (quiet_within (record { stored = w.stored; frame = f; slots = w.slots })) (quiet_within w)

  on_ack_vote_within : {q : ℕ} (p e : ℕ) (s : Server) → ServerWithin n b l q s → ReactionWithin n b l (on_ack_vote n p e s)
  unfolding on_ack_vote
  on_ack_vote_within p e s w = ack_within p e s w s.volatile.role w.frame.standing

  -- ---- rounds

  -- the slots of a server with that number, but for bucket i
  abbrev OtherSlots : (number i : ℕ) → List (Option Round) → List (Option Call) → Type 0
  OtherSlots number i rs cs = (j : ℕ) → j < b → j ≢ i → SlotWithin n b l 0 number j (get_or rs j none) (get_or cs j none)

  all_slots : {number : ℕ} (i : ℕ) (rs : List (Option Round)) (cs : List (Option Call)) → OtherSlots number i rs cs →
      SlotWithin n b l 0 number i (get_or rs i none) (get_or cs i none) →
      (j : ℕ) → j < b → SlotWithin n b l 0 number j (get_or rs j none) (get_or cs j none)
  all_slots {number} i rs cs o h j d = go (ℕ_discrete j i)
    where
      go : Dec (j ≡ i) → SlotWithin n b l 0 number j (get_or rs j none) (get_or cs j none)
      go (yes e) = rw e h
      go (no e) = o j d e

  others_set : {number : ℕ} (i : ℕ) (rs : List (Option Round)) (cs : List (Option Call)) (r : Option Round) (c : Option Call) →
      OtherSlots number i rs cs → OtherSlots number i (ListN.set rs i r) (ListN.set cs i c)
  others_set i rs cs r c o j d e = rw (get_or-set_other rs i j r none e, get_or-set_other cs i j c none e) (o j d e)

  -- a server in the midst of the call c on bucket i, for which q more rounds may be made
  record Amidst (i q : ℕ) (c : Call) (s : Server) : Type 0 where
    stored : StoredWithin n b l q s.stored
    frame : FrameWithin n b l q s.stored.number s.volatile
    elected : 1 ≤ s.stored.number
    others : OtherSlots s.stored.number i s.volatile.rounds s.volatile.calls
    there : call_at s.volatile i ≡ some c
    call : CallWithin b l i q c

  amidst_fewer : {i q : ℕ} {c : Call} {s : Server} (p : ℕ) → p ≤ q → Amidst i q c s → Amidst i p c s
  amidst_fewer {i} {q} p h a =
      let g = fewer l q p h in
      record {
        stored = stored_grows g a.stored;
        frame = frame_grows g a.frame;
        elected = a.elected;
        others = a.others;
        there = a.there;
        call = call_grows g a.call;
      }

  -- it rests with a round open
  amidst_rests : {i q : ℕ} {c : Call} {s : Server} (r : Round) → Amidst i q c s → round_at s.volatile i ≡ some r →
      RoundWithin n l s.stored.number r → ServerWithin n b l 0 s
  amidst_rests {i} {q} {c} {s} r a e w =
      let z = amidst_fewer 0 (omega arith) a in
      record {
        stored = z.stored;
        frame = z.frame;
        slots = all_slots i s.volatile.rounds s.volatile.calls a.others (rw (e, a.there) (busy w z.call));
      }

  -- ---- a broadcast

  -- one more round made for a call
  abbrev again : Bool → Call → Call
  again own c = record { number = c.number; words = c.words; rounds = c.rounds + 1; sent = elim own [ true ↦ true | false ↦ c.sent ] }

  report_within : (p : Purpose) (c : Copy) → CopyWithin l 0 c → CopyWithin l 0 (report_to p c)
  unfolding report_to
  report_within recovery_read c w = w
  report_within recovery_write c w = fresh_copy_within l
  report_within check c w = fresh_copy_within l
  report_within own_write c w = fresh_copy_within l

  report_unread : (p : Purpose) (c : Copy) → Unread p (report_to p c)
  unfolding report_to
  report_unread recovery_read c = tt
  report_unread recovery_write c = refl
  report_unread check c = refl
  report_unread own_write c = refl

  -- server `me` works on bucket i
  module _ (me i : ℕ) (h : me < n) (d : i < b) where
    -- where one more round may be made than the q that may follow it
    module _ {q : ℕ} {c : Call} {s : Server} (p : Purpose) (request : Request) (w : RequestWithin l q s.stored.number request) (a : Amidst i (suc q) c s) where
      opening_kept : Kept q s.stored.number (accepting i s.stored.number me request s.stored)
      opening_kept = accepting_kept i s.stored.number me request s.stored a.stored.number h w (stored_grows (fewer l (suc q) q (omega arith)) a.stored)

      opening_amidst : Amidst i q (again (is_own p) c) (opening n me i p request s)
      unfolding opening one_more
      opening_amidst =
          let f = a.frame in
          let v = s.volatile in
          let k = opening_kept in
          let o = a.call in
          record {
            stored = k.within;
            frame =
                rw k.same
                (record {
                  votes = f.votes;
                  rounds = rw length-set f.rounds;
                  calls = rw length-set f.calls;
                  last_round = omega (arith, f.last_round);
                  standing = f.standing;
                });
            elected = rw k.same a.elected;
            others = rw k.same (others_set i v.rounds v.calls _ _ a.others);
            there = get_or-set_same v.calls i _ none (omega (arith, f.calls)) ∙ rw a.there;
            call = record { first = o.first; last = o.last; rounds = omega (arith, o.rounds); sizes = o.sizes; bucket = o.bucket };
          }

      new_round_within : RoundWithin n l s.stored.number (new_round n me i p s)
      unfolding new_round
      new_round_within =
          record {
            low = omega arith;
            high = omega (arith, a.frame.last_round);
            elected = a.elected;
            election = a.stored.number;
            present = refl;
            marks = rw (length-set, length-replicate);
            best = report_within p _ (copy_grows (fewer l (suc q) 0 (omega arith)) _ (copy_within i d a.stored));
            unread = report_unread p _;
          }

      opening_rests : ServerWithin n b l 0 (opening n me i p request s)
      unfolding opening new_round
      opening_rests =
          amidst_rests (new_round n me i p s) opening_amidst
          (get_or-set_same s.volatile.rounds i _ none (omega (arith, a.frame.rounds)))
          (rw opening_kept.same new_round_within)

      opening_sends : All (MessageWithin n b l) (broadcast n me i s.stored.number (s.volatile.last_round + 1) (request_body request))
      opening_sends =
          broadcast_within me i s.stored.number (s.volatile.last_round + 1) (request_body request) h d a.elected a.stored.number (body request w)
        where
          asked : Request → ℕ → Message
          asked y x = record { sender = me; receiver = x; bucket = i; election = s.stored.number; round = s.volatile.last_round + 1; body = request_body y }

          round : (1 ≤ s.volatile.last_round + 1) × (s.volatile.last_round + 1 ≤ l.rounds)
          round = omega (arith, a.frame.last_round)

          body : (y : Request) → RequestWithin l q s.stored.number y → (x : ℕ) → BodyWithin l (asked y x) (request_body y)
          body reading z x = unfold request_body in round
          body (writing c) z x = unfold request_body in (round, z.0, copy_grows (fewer l q 0 (omega arith)) _ z.1)

      -- `follows`: what is shown of whatever follows where the sender alone is a majority
      open_round_within : (next : Server → Reaction) →
          ((t : Server) → Amidst i q (again (is_own p) c) t → ReactionWithin n b l (next t)) →
          ReactionWithin n b l (open_round n me i p request next s)
      unfolding open_round
      open_round_within next follows =
          let r = follows (opening n me i p request s) opening_amidst in
          chosen (closes n (new_round n me i p s))
          (record { server = r.server; sends = all_append opening_sends r.sends; answers = r.answers })
          (record { server = opening_rests; sends = opening_sends; answers = no_answers })

    -- ---- calls

    finish_within : {q : ℕ} {c : Call} {s : Server} (r : Result) → ResultWithin r → Amidst i q c s →
        ReactionWithin n b l (finish i r s)
    unfolding finish answer_of
    finish_within {q} {c} {s} r w a =
        let z = amidst_fewer 0 (omega arith) a in
        let f = z.frame in
        let v = s.volatile in
        record {
          server =
              record {
                stored = z.stored;
                frame =
                    record {
                      votes = f.votes;
                      rounds = rw length-set f.rounds;
                      calls = rw length-set f.calls;
                      last_round = f.last_round;
                      standing = f.standing;
                    };
                slots =
                    all_slots i (ListN.set v.rounds i none) (ListN.set v.calls i none)
                    (others_set i v.rounds v.calls none none a.others)
                    (rw (get_or-set_same v.rounds i none none (omega (arith, f.rounds)), get_or-set_same v.calls i none none (omega (arith, f.calls))) idle);
              };
          sends = nil;
          answers = rw a.there (single answer);
        }
      where
        answer : AnswerWithin l (record { call = c.number; result = r; rounds = c.rounds })
        answer = record { first = a.call.first; last = a.call.last; rounds = omega (arith, a.call.rounds); result = w }

    -- a write of a table that fits, under the leader's number
    write_within : {q : ℕ} {c : Call} {s : Server} (counter : ℕ) (t : List Entry) → 1 ≤ counter → counter + q ≤ l.rounds →
        Fits t → Amidst i (suc q) c s →
        RequestWithin l q s.stored.number (writing (copy_of (version s.stored.number counter) t))
    write_within counter t low high fit a =
        let e = a.elected in
        (refl, record { election = a.stored.number; counter = high; unwritten = omega arith; written = omega arith; empty = λ z. absurd (omega arith); fitting = fit })

    applying_within : {c : Call} {s : Server} (x : Effect) → EffectWithin x → Amidst i 1 c s →
        ReactionWithin n b l (applying n me i x s)
    unfolding applying next_version
    applying_within (answers r) w a = finish_within r w a
    applying_within (writes t) w a =
        let k = copy_within i d a.stored in
        open_round_within own_write _ (write_within _ t (omega arith) (omega arith) w a) a (finish i done) (λ u m. finish_within done tt m)

    after_read_within : {c : Call} {s : Server} → Amidst i 1 c s → ReactionWithin n b l (after_read n me i s)
    unfolding after_read
    after_read_within {c} a =
        rw (after_read, a.there) (applying_within _ (effect_within c.words _ a.call.sizes (copy_within i d a.stored).fitting) a)

    checking_within : {c : Call} {s : Server} → Amidst i 2 c s → ReactionWithin n b l (checking n me i s)
    unfolding checking
    checking_within a = open_round_within check reading tt a (after_read n me i) (λ u m. after_read_within m)

    recovering_within : {c : Call} {s : Server} (t : List Entry) → Fits t → Amidst i 3 c s →
        ReactionWithin n b l (recovering n me i t s)
    unfolding recovering
    recovering_within t w a =
        open_round_within recovery_write _ (write_within 1 t (omega arith) (omega (arith, a.frame.last_round)) w a) a (checking n me i) (λ u m. checking_within m)

    read_bucket_within : {c : Call} {s : Server} → Amidst i 4 c s → ReactionWithin n b l (start_read n me i s)
    unfolding start_read
    read_bucket_within {c} {s} a =
        chosen (recovered s.stored.number (copy_at s.stored i))
        (checking_within (amidst_fewer 2 (omega arith) a))
        (open_round_within recovery_read reading tt a _ (λ u m. recovering_within _ (copy_within i d a.stored).fitting m))

    start_call_within : {c : Call} {s : Server} → Amidst i 4 c s → ReactionWithin n b l (start_call n me i c.words s)
    start_call_within {c} {s} a =
        let written = effect_within c.words _ a.call.sizes (copy_within i d a.stored).fitting in
        first_round n me i c.words s (ReactionWithin n b l)
        (λ t e made. applying_within (writes t) (subst EffectWithin made written) (amidst_fewer 1 (omega arith) a))
        (read_bucket_within a)

    pub begin_call_within : {s : Server} (number : ℕ) (words : Words) → 1 ≤ number → number ≤ l.calls → WordsSized words →
        bucket_for b words ≡ i → s.volatile.role ≢ follower → ServerWithin n b l 4 s →
        ReactionWithin n b l (begin_call n me i number words s)
    unfolding begin_call
    begin_call_within {s} number words low high sizes bucket acting w =
        let f = w.frame in
        let v = s.volatile in
        let new : Call = record { number = number; words = words; rounds = 0; sent = false } in
        start_call_within {c = new}
        (record {
          stored = w.stored;
          frame = record { votes = f.votes; rounds = f.rounds; calls = rw length-set f.calls; last_round = f.last_round; standing = f.standing };
          elected = role_elected v.role s.stored.number acting f.standing;
          others = λ j k o. rw (get_or-set_other v.calls i j (some new) none o) (slot_grows (fewer l 4 0 (omega arith)) (w.slots j k));
          there = get_or-set_same v.calls i (some new) none (omega (arith, f.calls));
          call = record { first = low; last = high; rounds = omega (arith, f.last_round); sizes = sizes; bucket = bucket };
        })

    -- ---- what follows a round that closed, fails or stays open

    closed_within : {c : Call} {s : Server} (best : List Entry) → Fits best → (p : Purpose) → Amidst i (left p) c s →
        ReactionWithin n b l (elim p [ recovery_read ↦ recovering n me i best s | recovery_write ↦ checking n me i s | check ↦ after_read n me i s | own_write ↦ finish i done s ])
    closed_within best w recovery_read a = recovering_within best w a
    closed_within best w recovery_write a = checking_within a
    closed_within best w check a = after_read_within a
    closed_within best w own_write a = finish_within done tt a

    -- the server with its round replaced, in the midst of the call there
    with_round_lem : {c : Call} {s : Server} (r : Round) → call_at s.volatile i ≡ some c → CallWithin b l i 4 c → 1 ≤ s.stored.number →
        ServerWithin n b l 4 s → Amidst i 4 c (with_round s i r)
    with_round_lem {c} {s} r e call low w =
        let f = w.frame in
        record {
          stored = w.stored;
          frame = record { votes = f.votes; rounds = rw length-set f.rounds; calls = f.calls; last_round = f.last_round; standing = f.standing };
          elected = low;
          others = λ j k o. rw (get_or-set_other s.volatile.rounds i j (some r) none o) (slot_grows (fewer l 4 0 (omega arith)) (w.slots j k));
          there = e;
          call = call;
        }

    left_few : (p : Purpose) → left p ≤ 4
    left_few recovery_read = omega arith
    left_few recovery_write = omega arith
    left_few check = omega arith
    left_few own_write = omega arith

    counting_within : {c : Call} {s : Server} (r : Round) → call_at s.volatile i ≡ some c →
        CallWithin b l i 4 c → RoundWithin n l s.stored.number r →
        ServerWithin n b l 4 s →
        ReactionWithin n b l (counting n me i r s)
    unfolding counting closed
    counting_within {c} {s} r e call w k =
        let a = with_round_lem r e call (omega (arith, w.elected, w.present)) k in
        let there : round_at (with_round s i r).volatile i ≡ some r = get_or-set_same s.volatile.rounds i (some r) none (omega (arith, k.frame.rounds)) in
        chosen (closes n r) (closed_within r.best.table w.best.fitting r.purpose (amidst_fewer (left r.purpose) (left_few r.purpose) a))
        (chosen (fails n r) (cease_within k) (quiet_within (amidst_rests r a there w)))

  -- ---- replies to rounds

  marked_size : (p : ℕ) (m : Mark) (marks : List Mark) → length (marked_by p m marks) ≡ length marks
  unfolding marked_by
  marked_size p m marks = go (get_or marks p refused) refl
    where
      go : (x : Mark) → get_or marks p refused ≡ x → length (marked_by p m marks) ≡ length marks
      go silent e = rw (marked_by, e, length-set)
      go acknowledged e = rw (marked_by, e)
      go refused e = rw (marked_by, e)

  better_within : (old new : Copy) → CopyWithin l 0 old → CopyWithin l 0 new → CopyWithin l 0 (better old new)
  unfolding better
  better_within old new w x = go (above new.version old.version) refl
    where
      go : (t : Bool) → above new.version old.version ≡ t → CopyWithin l 0 (better old new)
      go true e = rw (better, e) x
      go false e = rw (better, e) w

  better_unread : (p : Purpose) (old new : Copy) → Unread p old → Unread p new → Unread p (better old new)
  unfolding better above
  better_unread recovery_read old new h k = tt
  better_unread recovery_write old new h k = rw (h, k)
  better_unread check old new h k = rw (h, k)
  better_unread own_write old new h k = rw (h, k)

  counted_within : {number : ℕ} (p : ℕ) (m : Mark) (report : Copy) (r : Round) → CopyWithin l 0 report →
      RoundWithin n l number r → RoundWithin n l number (counted p m report r)
  unfolding counted
  counted_within p m report r x w =
      record {
        low = w.low;
        high = w.high;
        elected = w.elected;
        election = w.election;
        present = w.present;
        marks = marked_size p m r.marks ∙ w.marks;
        best = best (get_or r.marks p refused);
        unread = unread (get_or r.marks p refused);
      }
    where
      unread : (y : Mark) →
          Unread r.purpose (elim y [ silent ↦ better r.best (report_to r.purpose report) | acknowledged ↦ r.best | refused ↦ r.best ])
      unread silent = better_unread r.purpose _ _ w.unread (report_unread r.purpose report)
      unread acknowledged = w.unread
      unread refused = w.unread

      best : (y : Mark) →
          CopyWithin l 0 (elim y [ silent ↦ better r.best (report_to r.purpose report) | acknowledged ↦ r.best | refused ↦ r.best ])
      best silent = better_within _ _ w.best (report_within r.purpose report x)
      best acknowledged = w.best
      best refused = w.best

  module _ {s : Server} (me : ℕ) (m : Message) (mark : Mark) (report : Copy) (h : me < n) (d : m.bucket < b) (x : CopyWithin l 0 report) (w : ServerWithin n b l 4 s) where
    reply_within : (o : Option Round) (c : Option Call) → call_at s.volatile m.bucket ≡ c →
        SlotWithin n b l 4 s.stored.number m.bucket o c →
        ReactionWithin n b l
        (elim o [
          | none ↦ no_reaction s
          | some r ↦
              elim (eqb m.election r.election) [
                | false ↦ no_reaction s
                | true ↦
                    elim (eqb m.round r.number) [ false ↦ no_reaction s | true ↦ counting n me m.bucket (counted m.sender mark report r) s ]
              ]
        ])
    unfolding counted
    reply_within o c e idle = quiet_within w
    reply_within o c e (busy {r = r} t k) =
        let counts = counting_within me m.bucket h d (counted m.sender mark report r) e k (counted_within m.sender mark report r x t) w in
        chosen (eqb m.election r.election) (chosen (eqb m.round r.number) counts (quiet_within w)) (quiet_within w)

    on_reply_within : ReactionWithin n b l (on_reply n me m mark report s)
    unfolding on_reply
    on_reply_within = reply_within (round_at s.volatile m.bucket) (call_at s.volatile m.bucket) refl (w.slots m.bucket d)

  -- ---- the handling of a message

  -- a reply to a message within the limits, with a body of its kind
  reply_to_lem : (m : Message) (body : Body) → MessageWithin n b l m → BodyWithin l (reply_to m.receiver m body) body →
      MessageWithin n b l (reply_to m.receiver m body)
  reply_to_lem m body w x =
      record { sender = w.receiver; receiver = w.sender; apart = λ e. w.apart (sym e); bucket = w.bucket; elected = w.elected; election = w.election; body = x }

  on_please_vote_within : {q : ℕ} (m : Message) (s : Server) → MessageWithin n b l m → OfVote m → ServerWithin n b l q s →
      ReactionWithin n b l (on_please_vote m.receiver m s)
  unfolding on_please_vote
  on_please_vote_within m s w v k =
      let r = settle_within (with_stored_lem (after_vote_kept m.election m.sender s.stored w.election w.sender k.stored) k) in
      record { server = r.server; sends = cons (reply_to_lem m _ w (vote (grants m.election m.sender s.stored))) nil; answers = r.answers }
    where
      vote : (t : Bool) →
          BodyWithin l (reply_to m.receiver m (elim t [ true ↦ ack_vote | false ↦ nack_vote ])) (elim t [ true ↦ ack_vote | false ↦ nack_vote ])
      vote true = v
      vote false = v

  acknowledging_within : (m : Message) (request : Request) (st : Stored) → MessageWithin n b l m → OfRound l m →
      StoredWithin n b l 0 st →
      BodyWithin l (reply_to m.receiver m (acknowledging m.bucket request st)) (acknowledging m.bucket request st)
  unfolding acknowledging
  acknowledging_within m reading st w v k = (v, copy_within m.bucket w.bucket k)
  acknowledging_within m (writing c) st w v k = v

  refusing_within : (m : Message) (request : Request) → OfRound l m →
      BodyWithin l (reply_to m.receiver m (refusing request)) (refusing request)
  unfolding refusing
  refusing_within m reading v = v
  refusing_within m (writing c) v = v

  on_request_within : (m : Message) (request : Request) (s : Server) → MessageWithin n b l m → OfRound l m →
      RequestWithin l 0 m.election request → ServerWithin n b l 0 s →
      ReactionWithin n b l (on_request m.receiver m request s)
  unfolding on_request
  on_request_within m request s w v x k =
      let a = accepting_kept m.bucket m.election m.sender request s.stored w.election w.sender x k.stored in
      let r = settle_within (with_stored_lem a k) in
      chosen (may_accept m.election s.stored)
      (record { server = r.server; sends = cons (reply_to_lem m _ w (acknowledging_within m request _ w v a.within)) nil; answers = r.answers })
      (record { server = k; sends = cons (reply_to_lem m _ w (refusing_within m request v)) nil; answers = no_answers })

  pub handle_within : (m : Message) (s : Server) → MessageWithin n b l m → ServerWithin n b l 4 s →
      ReactionWithin n b l (handle n m.receiver m s)
  unfolding handle
  handle_within m s w k = go m.body w.body
    where
      rest : ServerWithin n b l 0 s
      rest = server_grows (fewer l 4 0 (omega arith)) s k

      me : ℕ
      me = m.receiver

      go : (x : Body) → BodyWithin l m x →
          ReactionWithin n b l
          (elim x [
            | please_vote ↦ on_please_vote me m s
            | ack_vote ↦ on_ack_vote n m.sender m.election s
            | nack_vote ↦ no_reaction s
            | replica_write c ↦ on_request me m (writing c) s
            | ack_write ↦ on_reply n me m acknowledged fresh_copy s
            | nack_write ↦ on_reply n me m refused fresh_copy s
            | replica_read ↦ on_request me m reading s
            | ack_read c ↦ on_reply n me m acknowledged c s
            | nack_read ↦ on_reply n me m refused fresh_copy s
          ])
      go please_vote v = on_please_vote_within m s w v k
      go ack_vote v = on_ack_vote_within m.sender m.election s k
      go nack_vote v = quiet_within k
      go (replica_write c) v = on_request_within m (writing c) s w v.0 (v.1, v.2) rest
      go ack_write v = on_reply_within me m acknowledged fresh_copy w.receiver w.bucket (fresh_copy_within l) k
      go nack_write v = on_reply_within me m refused fresh_copy w.receiver w.bucket (fresh_copy_within l) k
      go replica_read v = on_request_within m reading s w v tt rest
      go (ack_read c) v = on_reply_within me m acknowledged c w.receiver w.bucket v.1 k
      go nack_read v = on_reply_within me m refused fresh_copy w.receiver w.bucket (fresh_copy_within l) k
