-- The slots after a step: the records of its slot are those stored, the others stay; and after leading ended.
use mathlib.Core.Path.{◌≡◌, refl, ◌∙◌}
use mathlib.Core.Logic.{◌≢◌}
use mathlib.Core.Bool.{Bool, true, false}
use mathlib.Core.List.{List}
use mathlib.Core.Option.{none}
use Prim.Native.Nat.{ℕ, zero, suc, ◌≤◌, ◌<◌}
use native.Mathlib.Decide.{ℕ_discrete}
use native.Mathlib.Omega.{arith}
use borrow.Author.Tests.{eqb-true}
use lib.Dec.{eqb}
use lib.ListN.{length}
use Rattle.entries.specs.Entries.{Entry}
use Rattle.model.specs.Calls as calls
use Rattle.server.specs.declared.Round.{Round}
use Rattle.server.specs.declared.Call.{Call}
use Rattle.server.specs.Views.{among, round_in, call_in}
use Rattle.memory.specs.Layout.{server_room, slot_room, slot_of, version_at, round_at, call_at, words_at, put_version, put_round, put_call}
use Rattle.memory.proofs.Records.{
  length-put_version,
  version_put_version,
  version_elsewhere,
  round_put_version,
  call_put_version,
  length-put_round,
  round_put_round,
  round_elsewhere,
  version_put_round,
  call_put_round,
  length-put_call,
  call_put_call,
  call_elsewhere,
  version_put_call,
  round_put_call,
}
use Rattle.memory.proofs.Texts.{words_put_version, words_put_round, words_put_call}
use Rattle.moves.specs.declared.Local.{Local}
use Rattle.moves.specs.Moves.{no_round, no_call}
use Rattle.views.specs.Changes.{put_local, is_idle, cleared_slot, cleared_slots}

-- the slot reads the same before and after
pub record SameSlot (before after : List ℕ) (j : ℕ) : Type 0 where
  pub version : version_at after j ≡ version_at before j
  pub round : round_at after j ≡ round_at before j
  pub call : call_at after j ≡ call_at before j

same_then : (l₁ l₂ l₃ : List ℕ) (j : ℕ) → SameSlot l₁ l₂ j → SameSlot l₂ l₃ j → SameSlot l₁ l₃ j
same_then l₁ l₂ l₃ j a b = record { version = b.version ∙ a.version; round = b.round ∙ a.round; call = b.call ∙ a.call }

-- ---- a local stored

module _ (l : List ℕ) (k : ℕ) (x : Local) where
  abbrev one : List ℕ
  one = put_version l k x.version

  abbrev two : List ℕ
  two = put_round one k x.round

  length_two : length two ≡ length l
  length_two = length-put_round one k x.round ∙ length-put_version l k x.version

  pub length-put_local : length (put_local l k x) ≡ length l
  length-put_local = length-put_call two k x.call ∙ length_two

  pub words_put_local : (texts : List ℕ) (j : ℕ) → words_at (put_local l k x) texts j ≡ words_at l texts j
  words_put_local texts j = rw (words_put_call, words_put_round, words_put_version)

  pub others_put_local : (j : ℕ) → j ≢ k → SameSlot l (put_local l k x) j
  others_put_local j d =
      record {
        version = rw (version_put_call, version_put_round, version_elsewhere l k x.version j d);
        round = rw (round_put_call, round_elsewhere one k x.round j d, round_put_version);
        call = rw (call_elsewhere two k x.call j d, call_put_round, call_put_version);
      }

  module _ (room : length l ≡ 1792) (slot : k < slot_room) where
    pub version_put_local : version_at (put_local l k x) k ≡ x.version
    version_put_local = rw (version_put_call, version_put_round, version_put_version l k x.version (omega arith))

    pub round_put_local : length x.round.marks ≡ server_room → round_at (put_local l k x) k ≡ x.round
    round_put_local whole = let h = length-put_version l k x.version in rw (round_put_call, round_put_round one k x.round (omega arith) whole)

    pub call_put_local : call_at (put_local l k x) k ≡ x.call
    call_put_local = let h = length_two in rw (call_put_call two k x.call (omega arith))

-- ---- a slot cleared

-- the slot stands for no round and no call
pub record Idle (slots : List ℕ) (k : ℕ) : Type 0 where
  pub round : (n : ℕ) (t : List Entry) → round_in n (round_at slots k) t ≡ none
  pub call : (words : calls.Words) → call_in (call_at slots k) words ≡ none

idle_same : (before after : List ℕ) (j : ℕ) → SameSlot before after j → Idle before j → Idle after j
idle_same before after j same idle =
    record { round = λ n t. rw same.round (idle.round n t); call = λ words. rw same.call (idle.call words) }

no_round_lem : (n : ℕ) (r : Round) (t : List Entry) → r.purpose ≡ 0 → round_in n r t ≡ none
unfolding round_in among
no_round_lem n r t e = rw (round_in, e)

no_call_lem : (c : Call) (words : calls.Words) → c.kind ≡ 0 → call_in c words ≡ none
unfolding call_in among
no_call_lem c words e = rw (call_in, e)

module _ (l : List ℕ) (k : ℕ) where
  abbrev cleared : List ℕ
  cleared = put_call (put_round l k no_round) k no_call

  -- what holds of the slots as they were and of those with the slot emptied
  either : (P : List ℕ → Type 0) → P l → P cleared → P (cleared_slot l k)
  unfolding cleared_slot
  either P here there = elim (is_idle (round_at l k) (call_at l k)) as (λ x. P (elim x as (λ _. List ℕ) [ true ↦ l | false ↦ cleared ])) [ true ↦ here | false ↦ there ]

  length-cleared_slot : length (cleared_slot l k) ≡ length l
  length-cleared_slot = either (λ x. length x ≡ length l) refl (length-put_call (put_round l k no_round) k no_call ∙ length-put_round l k no_round)

  version_cleared_slot : (j : ℕ) → version_at (cleared_slot l k) j ≡ version_at l j
  version_cleared_slot j = either (λ x. version_at x j ≡ version_at l j) refl (version_put_call (put_round l k no_round) k no_call j ∙ version_put_round l k no_round j)

  words_cleared_slot : (texts : List ℕ) (j : ℕ) → words_at (cleared_slot l k) texts j ≡ words_at l texts j
  words_cleared_slot texts j =
      either (λ x. words_at x texts j ≡ words_at l texts j) refl (words_put_call (put_round l k no_round) texts k j no_call ∙ words_put_round l texts k j no_round)

  others_cleared_slot : (j : ℕ) → j ≢ k → SameSlot l (cleared_slot l k) j
  others_cleared_slot j d =
      either (λ x. SameSlot l x j) (record { version = refl; round = refl; call = refl })
      (record {
        version = version_put_call (put_round l k no_round) k no_call j ∙ version_put_round l k no_round j;
        round = round_put_call (put_round l k no_round) k no_call j ∙ round_elsewhere l k no_round j d;
        call = call_elsewhere (put_round l k no_round) k no_call j d ∙ call_put_round l k no_round j;
      })

  emptied : length l ≡ 1792 → k < slot_room → Idle cleared k
  emptied room slot =
      let h = length-put_round l k no_round in
      let r : round_at cleared k ≡ no_round = round_put_call (put_round l k no_round) k no_call k ∙ round_put_round l k no_round (omega arith) refl in
      let c : call_at cleared k ≡ no_call = call_put_call (put_round l k no_round) k no_call (omega arith) in
      record { round = λ n t. rw r (no_round_lem n no_round t refl); call = λ words. rw c (no_call_lem no_call words refl) }

  idle_cleared_slot : length l ≡ 1792 → k < slot_room → Idle (cleared_slot l k) k
  unfolding cleared_slot is_idle
  idle_cleared_slot room slot = go (eqb (round_at l k).purpose 0) refl (eqb (call_at l k).kind 0) refl
    where
      go : (x : Bool) → eqb (round_at l k).purpose 0 ≡ x → (y : Bool) → eqb (call_at l k).kind 0 ≡ y → Idle (cleared_slot l k) k
      go true a true b =
          rw (cleared_slot, is_idle, a, b)
          (record { round = λ n t. no_round_lem n (round_at l k) t (eqb-true _ _ a); call = λ words. no_call_lem (call_at l k) words (eqb-true _ _ b) })
      go true a false b = rw (cleared_slot, is_idle, a, b) (emptied room slot)
      go false a y b = rw (cleared_slot, is_idle, a) (emptied room slot)

-- ---- the first slots of a server cleared

module _ (l : List ℕ) (s : ℕ) where
  pub length-cleared_slots : (most : ℕ) → length (cleared_slots l s most) ≡ length l
  unfolding cleared_slots
  length-cleared_slots zero = refl
  length-cleared_slots (suc b) = length-cleared_slot (cleared_slots l s b) (slot_of s b) ∙ length-cleared_slots b

  pub version_cleared_slots : (most j : ℕ) → version_at (cleared_slots l s most) j ≡ version_at l j
  unfolding cleared_slots
  version_cleared_slots zero j = refl
  version_cleared_slots (suc b) j = version_cleared_slot (cleared_slots l s b) (slot_of s b) j ∙ version_cleared_slots b j

  pub words_cleared_slots : (most : ℕ) (texts : List ℕ) (j : ℕ) → words_at (cleared_slots l s most) texts j ≡ words_at l texts j
  unfolding cleared_slots
  words_cleared_slots zero texts j = refl
  words_cleared_slots (suc b) texts j = words_cleared_slot (cleared_slots l s b) (slot_of s b) texts j ∙ words_cleared_slots b texts j

  -- a slot that is none of them
  pub others_cleared_slots : (most j : ℕ) → ((b : ℕ) → b < most → j ≢ slot_of s b) → SameSlot l (cleared_slots l s most) j
  unfolding cleared_slots
  others_cleared_slots zero j apart = record { version = refl; round = refl; call = refl }
  others_cleared_slots (suc b) j apart =
      same_then l (cleared_slots l s b) (cleared_slots l s (suc b)) j (others_cleared_slots b j (λ c h. apart c (omega arith)))
      (others_cleared_slot (cleared_slots l s b) (slot_of s b) j (apart b (omega arith)))

  pub idle_cleared_slots : length l ≡ 1792 → s < 7 → (most : ℕ) → most ≤ 8 → (b : ℕ) → b < most → Idle (cleared_slots l s most) (slot_of s b)
  unfolding cleared_slots
  idle_cleared_slots room server zero top b h = absurd (omega arith)
  idle_cleared_slots room server (suc c) top b h = go (ℕ_discrete b c) (λ less. idle_cleared_slots room server c (omega arith) b less)
    where
      go : Dec (b ≡ c) → (b < c → Idle (cleared_slots l s c) (slot_of s b)) → Idle (cleared_slot (cleared_slots l s c) (slot_of s c)) (slot_of s b)
      go (yes e) earlier = rw e (idle_cleared_slot (cleared_slots l s c) (slot_of s c) (length-cleared_slots c ∙ room) (omega arith))
      go (no d) earlier =
          idle_same (cleared_slots l s c) (cleared_slot (cleared_slots l s c) (slot_of s c)) (slot_of s b)
          (others_cleared_slot (cleared_slots l s c) (slot_of s c) (slot_of s b) (λ e. d (omega arith)))
          (earlier (omega arith))
