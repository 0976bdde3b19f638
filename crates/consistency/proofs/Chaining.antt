-- How steps that keep the invariant are put together into one.
use mathlib.Core.Path.{◌≡◌, refl, ◌∙◌}
use mathlib.Core.List.{List, []}
use Prim.Native.Nat.{ℕ}
use Rattle.model.specs.Cluster.{Server, Message}
use Rattle.model.specs.Leader.{Reaction, reaction, after}
use Rattle.history.specs.Members.{◌∈◌}
use Rattle.history.proofs.MemberLaws.{none_in, each_append}
use Rattle.consistency.proofs.Log.{Log}
use Rattle.consistency.proofs.Claims.{MessageOk}
use Rattle.consistency.proofs.Invariant.{LogOk, ServerOk}
use Rattle.consistency.proofs.Growth.{message_grows, Adds, adds_refl, adds_trans}
use Rattle.consistency.proofs.Acts.{Kept}

-- a step that only adds to the log and sends
pub record Sent (buckets p : ℕ) (log next : Log) (ms : List Message) : Type 0 where
  pub adds : Adds p log next
  pub begins : next.begins ≡ log.begins
  pub ends : next.ends ≡ log.ends
  pub sends : (m : Message) → m ∈ ms → MessageOk buckets next m

module _ {n buckets now taken p : ℕ} {log next : Log} {ms : List Message} (x : Sent buckets p log next ms) where
  -- it is followed by another
  pub kept_after : {r : Reaction} → Kept n buckets now taken p next r → Kept n buckets now taken p log (after ms r)
  kept_after {r} k =
      record {
        next = k.next;
        adds = adds_trans x.adds k.adds;
        facts = k.facts;
        server = k.server;
        sends = each_append ms (λ m i. message_grows k.adds.grows (x.sends m i)) k.sends;
        begins = k.begins ∙ x.begins;
        ends = λ y. rw x.ends at (k.ends y);
      }

  -- or by none
  pub kept_here : {s : Server} → LogOk n now taken next → ServerOk n buckets next p s → Kept n buckets now taken p log (reaction s ms [])
  kept_here ok h =
      record {
        next = next;
        adds = x.adds;
        facts = ok;
        server = h;
        sends = x.sends;
        begins = x.begins;
        ends = λ y. rw x.ends (λ m. m, λ m. m);
      }

module _ {n buckets now taken p : ℕ} where
  -- a server that agrees with the log, and adds nothing to it
  pub unmoved : {log : Log} {s : Server} → LogOk n now taken log → ServerOk n buckets log p s → (ms : List Message) → ((m : Message) → m ∈ ms → MessageOk buckets log m)
      → Kept n buckets now taken p log (reaction s ms [])
  unmoved {log} ok agrees ms good = kept_here (record { adds = adds_refl p log; begins = refl; ends = refl; sends = good }) ok agrees

  -- other messages are sent
  pub sending : {log : Log} {r : Reaction} (k : Kept n buckets now taken p log r) (ms : List Message) → ((m : Message) → m ∈ ms → MessageOk buckets k.next m)
      → Kept n buckets now taken p log (reaction r.server ms r.answers)
  sending k ms good =
      record { next = k.next; adds = k.adds; facts = k.facts; server = k.server; sends = good; begins = k.begins; ends = k.ends }

  -- the log grew before by what is neither the beginning nor the end of a call
  pub grown_before : {a b : Log} {r : Reaction} → Adds p a b → b.begins ≡ a.begins → b.ends ≡ a.ends → Kept n buckets now taken p b r → Kept n buckets now taken p a r
  grown_before add e f k = kept_after (record { adds = add; begins = e; ends = f; sends = λ m i. none_in i }) k

  -- a step that ends no call follows one that sends nothing
  pub followed : {log : Log} {r : Reaction} (k : Kept n buckets now taken p log r) {s : Server} {ms : List Message} → Kept n buckets now taken p k.next (reaction s ms [])
      → Kept n buckets now taken p log (reaction s ms r.answers)
  followed k j =
      record {
        next = j.next;
        adds = adds_trans k.adds j.adds;
        facts = j.facts;
        server = j.server;
        sends = j.sends;
        begins = j.begins ∙ k.begins;
        ends = λ x. (λ i. (k.ends x).0 ((j.ends x).0 i), λ i. (j.ends x).1 ((k.ends x).1 i));
      }
