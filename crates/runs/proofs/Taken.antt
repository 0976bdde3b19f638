-- The words of a call stored before its move: the cluster stays, and the words are read back.
use Rattle.std.proofs.Common.{◌≡◌, ℕ, ◌<◌, false, List, refl, ap}
use Rattle.model.specs.Lines as lines
use Rattle.server.specs.declared.Words.{Words}
use Rattle.server.specs.Views.{among, words_in}
use Rattle.memory.specs.Layout.{slot_room, slot_of, counts_at, call_at, Whole}
use Rattle.views.specs.Memory.{Memory, Sized, local_at, call_words_at, cluster_at}
use Rattle.views.proofs.Words.{worded, worded_local, worded_words, worded_sized, worded_servers}
use Rattle.plans.specs.declared.Step.{Step}
use Rattle.runs.specs.Runs.{taken}
use Rattle.runs.proofs.Accepting.{Ready}

-- the slot of a step
abbrev pub slot_in : Step → ℕ
slot_in x = slot_of x.server x.bucket

module _ (m : Memory) (w : Words) (x : Step) where
  taken_words : taken m w x ≡ worded m (slot_in x) w
  unfolding taken
  taken_words = refl

  taken_counts : (taken m w x).counts ≡ m.counts
  taken_counts = ap (λ x. x.counts) taken_words

  pub taken_local : (s j : ℕ) → local_at (taken m w x) s j ≡ local_at m s j
  taken_local s j = rw taken_words (worded_local m (slot_in x) w s j)

  module _ (sized : Sized m) (slot : slot_in x < slot_room) (whole : Whole w) where
    pub taken_read : call_words_at (taken m w x) (slot_in x) ≡ words_in w
    taken_read = rw taken_words (worded_words m (slot_in x) w sized slot whole)

    taken_sized : Sized (taken m w x)
    taken_sized = rw taken_words (worded_sized m (slot_in x) w sized slot whole)

    module _ (closed : among 5 (call_at m.slots (slot_in x)).kind ≡ false) where
      pub taken_cluster : cluster_at (taken m w x) ≡ cluster_at m
      taken_cluster =
          rw (taken_words, worded_servers m (slot_in x) w sized slot whole closed (counts_at m.counts).servers (counts_at m.counts).buckets)

      pub taken_ready : (l : List ℕ) (t : lines.Tally) → Ready m l t → Ready (taken m w x) l t
      taken_ready l t ready =
          record {
            sized = taken_sized;
            ordered = rw taken_words ready.ordered;
            answers = ready.answers;
            standing = rw taken_counts ready.standing;
            stands = rw taken_cluster ready.stands;
          }
