-- The run of every line stands for what the definitions of crates/model make of it.
use Rattle.std.proofs.Common.{◌≡◌, ℕ, Bool, true, false, List, length, refl, ap, ◌∙◌, subst}
use mathlib.Core.Option.{Option}
use Rattle.model.specs.Lines as lines
use Rattle.limits.specs.Stands.{Measured}
use Rattle.server.specs.declared.Effect.{Effect}
use Rattle.memory.specs.declared.Counts.{Counts}
use Rattle.memory.specs.Layout.{counts_at}
use Rattle.views.specs.Changes.{answers_room}
use Rattle.views.specs.Memory.{Memory, Sized, standing}
use Rattle.parse.specs.declared.Kind.{Kind}
use Rattle.parse.specs.declared.Kind.TheVariants as K
use Rattle.parse.specs.declared.Line.{Line}
use Rattle.parse.specs.Kept.{key_in, given_in}
use Rattle.parse.specs.Meaning.{line_for, expected_item, new_item, line_in}
use Rattle.runs.specs.Runs.{executed, line_plan, planned_run, run_by, line_run, EffectOf}
use Rattle.runs.specs.Meaning.{state_in, Bounded, performed, result_by, result_of, WholeLine}
use Rattle.runs.proofs.Accepting.{Ready}
use Rattle.runs.proofs.Standing.{standing_cluster, no_cluster}
use Rattle.runs.proofs.Fresh.{created_means, second_cluster}
use Rattle.runs.proofs.LineRuns.{elect_runs, timeout_runs, stop_runs, start_runs, lose_runs}
use Rattle.runs.proofs.Handing.{hand_runs}
use Rattle.runs.proofs.Cutting.{cut_runs}
use Rattle.runs.proofs.Wording.{get_said, set_said, setif_said, del_said, keys_said}
use Rattle.runs.proofs.Calling.{call_runs}

module _ (m : Memory) (l : List ℕ) (t : lines.Tally) (x : Line) (f : Effect) where
  abbrev counts : Counts
  counts = counts_at m.counts

  abbrev reads : Kind → Option lines.Line
  reads k = line_for k x.first x.second (key_in x.key) (given_in (expected_item x)) (given_in (new_item x))

  abbrev Means : Kind → Type 0
  Means k = performed (state_in m t) (reads k) ≡ result_of t (run_by k m l x f)

  -- ---- where a cluster stands

  module _ (stands : standing counts ≡ true) (ready : Ready m l t) (whole : WholeLine x) where
    planned_is : (k : Kind) → x.kind ≡ k → planned_run m l x f ≡ executed m l counts (line_plan k m counts x f)
    unfolding planned_run
    planned_is k e = rw (planned_run, stands, e)

    -- a line that needs a cluster
    by_plan : (k : Kind) → x.kind ≡ k → performed (state_in m t) (reads k) ≡ result_of t (executed m l counts (line_plan k m counts x f))
        → performed (state_in m t) (reads k) ≡ result_of t (planned_run m l x f)
    by_plan k e h = h ∙ ap (result_of t) (sym_planned k e)
      where
        sym_planned : (k : Kind) → x.kind ≡ k → executed m l counts (line_plan k m counts x f) ≡ planned_run m l x f
        sym_planned k e = rw (planned_is k e)

    standing_means : (k : Kind) → x.kind ≡ k → EffectOf k m counts x f → Means k
    unfolding run_by performed result_by line_for line_plan
    standing_means K.Malformed e g = refl
    standing_means K.Cluster e g = second_cluster m l x.first x.second t stands
    standing_means K.Elect e g = by_plan K.Elect e (elect_runs m l t ready x.first)
    standing_means K.Get e g = by_plan K.Get e (call_runs m l t ready x.first _ _ (get_said x whole) f g)
    standing_means K.Set e g = by_plan K.Set e (call_runs m l t ready x.first _ _ (set_said x whole) f g)
    standing_means K.SetIf e g = by_plan K.SetIf e (call_runs m l t ready x.first _ _ (setif_said x whole) f g)
    standing_means K.Del e g = by_plan K.Del e (call_runs m l t ready x.first _ _ (del_said x whole) f g)
    standing_means K.Keys e g = by_plan K.Keys e (call_runs m l t ready x.first _ _ (keys_said x whole) f g)
    standing_means K.Deliver e g = by_plan K.Deliver e (hand_runs m l t ready x.first true f g)
    standing_means K.Copy e g = by_plan K.Copy e (hand_runs m l t ready x.first false f g)
    standing_means K.Lose e g = by_plan K.Lose e (lose_runs m l t ready x.first)
    standing_means K.Timeout e g = by_plan K.Timeout e (timeout_runs m l t ready x.first x.second)
    standing_means K.Stop e g = by_plan K.Stop e (stop_runs m l t ready x.first)
    standing_means K.Cut e g = by_plan K.Cut e (cut_runs m l t ready x.first x.second)
    standing_means K.Start e g = by_plan K.Start e (start_runs m l t ready x.first)

  -- ---- where none does

  module _ (none-stands : standing counts ≡ false) (sized : Sized m) (zero-tally : t ≡ (lines.initial_state).tally) where
    -- 2 for every line but the cluster line
    two : (y : lines.Line) → lines.create_cluster (state_in m t) y ≡ lines.refuse (state_in m t) 2 → lines.perform (state_in m t) y ≡ result_of t (planned_run m l x f)
    unfolding planned_run result_by lines.perform_up_to
    two y h = rw (lines.perform_up_to, no_cluster m none-stands, planned_run, none-stands) h

    bare_means : (k : Kind) → Means k
    unfolding run_by performed result_by line_for lines.create_cluster
    bare_means K.Malformed = refl
    bare_means K.Cluster = created_means m l x.first x.second sized t zero-tally none-stands
    bare_means K.Elect = two _ refl
    bare_means K.Get = two _ refl
    bare_means K.Set = two _ refl
    bare_means K.SetIf = two _ refl
    bare_means K.Del = two _ refl
    bare_means K.Keys = two _ refl
    bare_means K.Deliver = two _ refl
    bare_means K.Copy = two _ refl
    bare_means K.Lose = two _ refl
    bare_means K.Timeout = two _ refl
    bare_means K.Stop = two _ refl
    bare_means K.Cut = two _ refl
    bare_means K.Start = two _ refl

-- every line, on arrays of the lent sizes that stand for a state within the measures
pub line_means : (m : Memory) (l : List ℕ) (t : lines.Tally) (x : Line) (f : Effect) → Sized m → length l ≡ answers_room → WholeLine x → Bounded m t
    → (standing (counts_at m.counts) ≡ true → EffectOf x.kind m (counts_at m.counts) x f)
    → performed (state_in m t) (line_in x) ≡ result_of t (line_run m l x f)
unfolding line_in line_run
line_means m l t x f sized answers whole bounded asked = go (standing (counts_at m.counts)) refl
  where
    go : (b : Bool) → standing (counts_at m.counts) ≡ b → performed (state_in m t) (line_in x) ≡ result_of t (line_run m l x f)
    go true s =
        let ready : Ready m l t = record { sized = sized; ordered = bounded.ordered s; answers = answers; standing = s; stands = subst (λ o. Measured o t) (standing_cluster m s) bounded.measured } in
        standing_means m l t x f s ready whole x.kind refl (asked s)
    go false s = bare_means m l t x f s sized (subst (λ o. Measured o t) (no_cluster m s) bounded.measured) x.kind
