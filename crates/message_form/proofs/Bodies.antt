-- The datagram of a message within the measures is well formed, kind by kind.
use mathlib.Core.Path.{◌≡◌, refl, sym, ◌∙◌}
use mathlib.Core.Bool.{Bool, true, false}
use Prim.Native.Nat.{ℕ, zero, suc, ◌≤◌, ◌<◌}
use native.Mathlib.Omega.{arith}
use lib.Dec.{eqb}
use lib.ListN.{length}
use borrow.Author.Tests.{le-leb, ne_eqb, eqb-true, eqb-false}
use Rattle.table.proofs.Fitting.{within_from}
use Rattle.fields.specs.Form.{version, max_two, max_four, carries, addressed, settled, well_formed, table_fits, carried}
use Rattle.fields.proofs.Rules.{vote_rules, plain_rules, read_rules, write_rules}
use Rattle.model.specs.Measures.{max_servers, max_buckets}
use Rattle.model.specs.Cluster.{Copy, Body, please_vote, ack_vote, nack_vote, replica_write, ack_write, nack_write, replica_read, ack_read, nack_read, kind_number, Message}
use Rattle.limits.specs.Measures.{Limits, CopyWithin, BodyWithin, OfVote, OfRound, MessageWithin}
use Rattle.message_form.specs.Statement.{copy_in, datagram_of}

-- measures that the fields of a datagram can hold
pub record Small (n b : ℕ) (l : Limits) : Type 0 where
  pub servers : n ≤ max_servers
  pub buckets : b ≤ max_buckets
  pub elections : l.elections ≤ max_two
  pub rounds : l.rounds ≤ max_four

-- a message with another body
abbrev pub with_body : Message → Body → Message
with_body m body = record { sender = m.sender; receiver = m.receiver; bucket = m.bucket; election = m.election; round = m.round; body = body }

not_zero : (e k : ℕ) → (k ≡ 0 → e ≡ 0) → (e ≡ 0 → ⊥) → 1 ≤ k
not_zero e zero f g = absurd (g (f refl))
not_zero e (suc k) f g = omega arith

module _ {n b : ℕ} {l : Limits} (small : Small n b l) where
  -- a copy's counter is 0 exactly where its number is, and then it is empty
  settled_copy : (c : Copy) → CopyWithin l 0 c → settled (version c.version.election c.version.counter) (length c.table) ≡ true
  unfolding settled
  settled_copy c w = go (eqb c.version.election 0) refl
    where
      go : (p : Bool) → eqb c.version.election 0 ≡ p → settled (version c.version.election c.version.counter) (length c.table) ≡ true
      go true p =
          let e = eqb-true c.version.election 0 p in
          rw (settled, p, w.unwritten e, w.empty e)
      go false p =
          rw (settled, p, le-leb c.version.election max_two (omega (arith, w.election, small.elections)))
          (within_from (not_zero _ _ w.written (eqb-false c.version.election 0 p)) (omega (arith, w.counter, small.rounds)))

  module _ (m : Message) (w : MessageWithin n b l m) where
    address : addressed m.sender m.receiver m.bucket m.election ≡ true
    unfolding addressed
    address =
        rw (addressed, ne_eqb m.sender m.receiver w.apart, le-leb m.sender 6 (omega (arith, w.sender, small.servers)), le-leb m.receiver 6 (omega (arith, w.receiver, small.servers)), le-leb m.bucket 7 (omega (arith, w.bucket, small.buckets)))
        (within_from w.elected (omega (arith, w.election, small.elections)))

    vote_form : (body : Body) → 1 ≤ kind_number body → kind_number body < 4 → OfVote m → well_formed (datagram_of (with_body m body)) ≡ true
    unfolding datagram_of
    vote_form body k j v = sym (vote_rules (datagram_of (with_body m body)) address k j) ∙ rw (v.0, v.1)

    plain_form : (body : Body) → 3 < kind_number body → kind_number body ≤ 9 → (kind_number body ≡ 4 → ⊥) → (kind_number body ≡ 8 → ⊥) → OfRound l m → well_formed (datagram_of (with_body m body)) ≡ true
    unfolding datagram_of
    plain_form body k j p q r =
        sym (plain_rules (datagram_of (with_body m body)) address k j (omega (arith, r.1, small.rounds)) p q) ∙ le-leb 1 m.round r.0

    pub is_well_formed : (body : Body) → BodyWithin l m body → well_formed (datagram_of (with_body m body)) ≡ true
    unfolding kind_number copy_in datagram_of
    is_well_formed please_vote v = vote_form please_vote (omega arith) (omega arith) v
    is_well_formed ack_vote v = vote_form ack_vote (omega arith) (omega arith) v
    is_well_formed nack_vote v = vote_form nack_vote (omega arith) (omega arith) v
    is_well_formed (replica_write c) r =
        sym (write_rules (datagram_of (with_body m (replica_write c))) address (omega arith) (omega arith) (omega (arith, r.0.1, small.rounds)) refl r.1)
        ∙ rw (le-leb 1 m.round r.0.0) (settled_copy c r.2)
    is_well_formed ack_write r = plain_form ack_write (omega arith) (omega arith) (omega arith) (omega arith) r
    is_well_formed nack_write r = plain_form nack_write (omega arith) (omega arith) (omega arith) (omega arith) r
    is_well_formed replica_read r = plain_form replica_read (omega arith) (omega arith) (omega arith) (omega arith) r
    is_well_formed (ack_read c) r =
        sym (read_rules (datagram_of (with_body m (ack_read c))) address (omega arith) (omega arith) (omega (arith, r.0.1, small.rounds)) refl)
        ∙ rw (le-leb 1 m.round r.0.0) (settled_copy c r.1)
    is_well_formed nack_read r = plain_form nack_read (omega arith) (omega arith) (omega arith) (omega arith) r

    pub table_is_fit : (body : Body) → BodyWithin l m body → table_fits (datagram_of (with_body m body)) ≡ true
    unfolding kind_number copy_in datagram_of carries table_fits
    table_is_fit please_vote v = refl
    table_is_fit ack_vote v = refl
    table_is_fit nack_vote v = refl
    table_is_fit (replica_write c) r = r.2.fitting
    table_is_fit ack_write r = refl
    table_is_fit nack_write r = refl
    table_is_fit replica_read r = refl
    table_is_fit (ack_read c) r = r.1.fitting
    table_is_fit nack_read r = refl

-- a datagram carries all that its message has
pub all_carried : (m : Message) (body : Body) → carried (datagram_of (with_body m body)) ≡ datagram_of (with_body m body)
unfolding kind_number copy_in datagram_of carries carried
all_carried m please_vote = refl
all_carried m ack_vote = refl
all_carried m nack_vote = refl
all_carried m (replica_write c) = refl
all_carried m ack_write = refl
all_carried m nack_write = refl
all_carried m replica_read = refl
all_carried m (ack_read c) = refl
all_carried m nack_read = refl
