-- Every message in flight has a datagram, and no other message has the same: `in_flight_have_form`, `message_back`, `one_message`.
use mathlib.Core.Path.{◌≡◌, refl, sym, ap, subst, ◌∙◌}
use mathlib.Core.List.{List, ◌++◌}
use mathlib.Core.Bool.{true}
use mathlib.Core.Option.{Option}
use Prim.Native.Nat.{ℕ, ◌≤◌}
use native.Mathlib.Omega.{arith}
use lib.ListN.{length, drop}
use borrow.Author.Tests.{le-leb}
use Rattle.bucket.specs.Answers.{numbered}
use Rattle.fields.specs.Form.{length_of, well_formed, table_fits, taken, read_datagram, write_datagram}
use Rattle.fields.proofs.OneForm.{reads_back}
use Rattle.model.specs.Cluster.{Body, please_vote, ack_vote, nack_vote, replica_write, ack_write, nack_write, replica_read, ack_read, nack_read, kind_number, Message, Cluster}
use Rattle.model.specs.Measures.{max_election}
use Rattle.model.specs.Lines.{initial_state, Tally}
use Rattle.model.specs.Run.{state_after}
use Rattle.limits.proofs.Lists.{all_in}
use Rattle.limits.specs.Measures.{Limits, limits_after, MessageWithin}
use Rattle.limits.specs.Stands.{Stands, Measured}
use Rattle.limits.proofs.Always.{within_always}
use Rattle.message_form.specs.Statement.{copy_in, datagram_of, message_bytes, body_of, message_of, HasForm, InFlightHaveForm, MessageBack, OneMessage}
use Rattle.message_form.proofs.Bodies.{Small, with_body, is_well_formed, table_is_fit, all_carried}

-- ---- a message within the measures

form_written : (m : Message) → well_formed (datagram_of m) ≡ true → table_fits (datagram_of m) ≡ true → (out : List ℕ) → length_of (kind_number m.body) ≤ length out → write_datagram (datagram_of m) out ≡ numbered 0 (message_bytes m ++ drop (length_of (kind_number m.body)) out)
unfolding datagram_of write_datagram
form_written m w f out h = rw (write_datagram, f, w, le-leb _ _ h)

pub within_has_form : {n b : ℕ} {l : Limits} → Small n b l → (m : Message) → MessageWithin n b l m → HasForm m
within_has_form small m h =
    let w : well_formed (datagram_of m) ≡ true = is_well_formed small m h m.body h.body in
    let f : table_fits (datagram_of m) ≡ true = table_is_fit small m h m.body h.body in
    record {
      is_well_formed = w;
      table_is_fit = f;
      written = form_written m w f;
      read_back = reads_back (datagram_of m) w f ∙ ap taken (all_carried m m.body);
    }

-- ---- a message in flight

small_limits : (c : Cluster) (t : Tally) → (s : Stands c t) → Small s.servers s.buckets (limits_after max_election c.accepted)
small_limits c t s = record { servers = s.few_servers; buckets = s.few_buckets; elections = omega arith; rounds = omega (arith, s.accepted) }

pub in_flight_have_form : InFlightHaveForm
in_flight_have_form ls c e m i =
    let s : Stands c (state_after initial_state ls).tally = subst (λ (o : Option Cluster). Measured o (state_after initial_state ls).tally) e (within_always max_election ls) in
    within_has_form (small_limits c _ s) m (all_in i s.within.messages)

-- ---- back to the message

body_back : (body : Body) → body_of (kind_number body) (copy_in body) ≡ body
unfolding kind_number copy_in body_of
body_back please_vote = refl
body_back ack_vote = refl
body_back nack_vote = refl
body_back (replica_write c) = refl
body_back ack_write = refl
body_back nack_write = refl
body_back replica_read = refl
body_back (ack_read c) = refl
body_back nack_read = refl

pub message_back : MessageBack
unfolding datagram_of message_of
message_back m = ap (with_body m) (body_back m.body)

pub one_message : OneMessage
one_message m k h j e =
    let read : taken (datagram_of m) ≡ taken (datagram_of k) = sym h.read_back ∙ ap read_datagram e ∙ j.read_back in
    let same : datagram_of m ≡ datagram_of k = cc in
    sym (message_back m) ∙ ap message_of same ∙ message_back k
