-- No smaller figure will do: for every number of servers a script, computed, after which a quiet call takes all 8 (n - 1) deliveries.
-- The deliveries are tested by a function that computes, as the hypotheses are, with the law that its yes is enough.
use mathlib.Core.Path.{◌≡◌, refl}
use mathlib.Core.Logic.{◌≢◌}
use mathlib.Core.List.{List, [], ◌∷◌, ◌++◌}
use mathlib.Core.Bool.{Bool, true, false, not}
use mathlib.Core.Option.{Option, none, some}
use Prim.Native.Nat.{ℕ, zero, suc, ◌-◌, ◌*◌}
use native.Mathlib.Omega.{arith}
use lib.Dec.{eqb, leb}
use lib.ListN.{length, replicate}
use borrow.Author.Tests.{eqb-true}
use Rattle.model.specs.Calls.{set, Answer}
use Rattle.model.specs.Cluster.{Message, Cluster}
use Rattle.model.specs.Lines.{State, initial_state, Outcome, refusal, printed, call, no_message}
use Rattle.model.specs.Text.{bytes}
use Rattle.model.specs.Parse.{parse}
use Rattle.model.specs.Print.{decimal}
use Rattle.model.specs.Run.{step, state_after}
use Rattle.model.specs.Compute.{computing}
use Rattle.model.specs.Rows.{every}
use Rattle.quiet.specs.Statement.{servers_of, deliveries, Drains, drained, oldest, Least, NoSmaller}
use Rattle.quiet.specs.Tests.{tests, testing}
use Rattle.quiet.proofs.Tested.{every_parts, empty_list, is_quiet}

-- ---- the deliveries, tested

unfoldable accepts : Outcome → Bool
accepts (refusal r) = false
accepts (printed out) = true

answers_of : (o : Outcome) → accepts o ≡ true → (out : List Answer) × (o ≡ printed out)
unfolding accepts
answers_of (refusal r) e = let z : ◌≡◌ {A = ℕ} 0 1 = cc in absurd (omega arith)
answers_of (printed out) e = (out, refl)

-- whether the list is empty, and whether it is not; neither before there is a cluster
unfoldable emptied : Option Cluster → Bool
emptied none = false
emptied (some c) = no_message c 0

unfoldable is_any_in_flight : Option Cluster → Bool
is_any_in_flight none = false
is_any_in_flight (some c) = not (no_message c 0)

emptied_list : (o : Option Cluster) → emptied o ≡ true → (c : Cluster) × (o ≡ some c) × (c.messages ≡ [])
unfolding emptied no_message
emptied_list none e = let z : ◌≡◌ {A = ℕ} 0 1 = cc in absurd (omega arith)
emptied_list (some c) e = (c, refl, empty_list c.messages e)

filled_list : (l : List Message) → not (leb (length l) 0) ≡ true → l ≢ []
filled_list [] e = let z : ◌≡◌ {A = ℕ} 0 1 = cc in absurd (omega arith)
filled_list (m ∷ l) e = λ i. let z : ◌≡◌ {A = ℕ} 0 1 = cc in omega arith

in_flight : (o : Option Cluster) → is_any_in_flight o ≡ true → (c : Cluster) × (o ≡ some c) × (c.messages ≢ [])
unfolding is_any_in_flight no_message
in_flight none e = let z : ◌≡◌ {A = ℕ} 0 1 = cc in absurd (omega arith)
in_flight (some c) e = (c, refl, filled_list c.messages e)

abbrev oldest_first : List ℕ
oldest_first = bytes "deliver 0"

unfoldable drains_in : ℕ → State → Bool
drains_in zero s = emptied s.cluster
drains_in (suc k) s = every (is_any_in_flight s.cluster ∷ accepts (step s oldest_first).outcome ∷ drains_in k (step s oldest_first).state ∷ [])

drains_in_lem : (k : ℕ) (s : State) → drains_in k s ≡ true → (more : List Answer) × (last : State) × Drains k s more last
unfolding drains_in
drains_in_lem zero s h = let (c, is, e) = emptied_list s.cluster h in ([], s, drained c is e)
drains_in_lem (suc k) s h =
    let (a, h2) = every_parts (is_any_in_flight s.cluster) _ h in
    let (b, h3) = every_parts (accepts (step s oldest_first).outcome) _ h2 in
    let (d, h4) = every_parts (drains_in k (step s oldest_first).state) _ h3 in
    let (c, is, e) = in_flight s.cluster a in
    let (out, accepted) = answers_of (step s oldest_first).outcome b in
    let (more, last, rest) = drains_in_lem k (step s oldest_first).state d in
    (out ++ more, last, oldest c out is e accepted rest)

-- ---- the scripts: server 0 of n is elected by all, then sets a key in the one bucket, which it has not recovered

abbrev elected : ℕ → List (List ℕ)
elected n = (bytes "cluster " ++ (decimal n ++ bytes " 1")) ∷ (bytes "elect 0" ∷ replicate (2 * (n - 1)) oldest_first)

abbrev setting : List ℕ
setting = bytes "set 0 61 01"

set_line : parse setting ≡ some (call 0 (set (0x61 ∷ []) (some (0x01 ∷ []))))
unfolding computing
set_line = refl

unfoldable reached_by : ℕ → State → Option Cluster → Bool
reached_by n s none = false
reached_by n s (some c) =
    every (eqb (servers_of c) n ∷ every (tests c 0) ∷ accepts (step s setting).outcome ∷ drains_in (deliveries n) (step s setting).state ∷ [])

abbrev begun : ℕ → State
begun n = state_after initial_state (elected n)

least_by : (n : ℕ) → reached_by n (begun n) (begun n).cluster ≡ true → Least n
unfolding reached_by
least_by n h = go (begun n).cluster refl h
  where
    go : (o : Option Cluster) → (begun n).cluster ≡ o → reached_by n (begun n) o ≡ true → Least n
    go none is h = let z : ◌≡◌ {A = ℕ} 0 1 = cc in absurd (omega arith)
    go (some c) is h =
        let s = begun n in
        let (a, h2) = every_parts (eqb (servers_of c) n) _ h in
        let (b, h3) = every_parts (every (tests c 0)) _ h2 in
        let (d, h4) = every_parts (accepts (step s setting).outcome) _ h3 in
        let (e, h5) = every_parts (drains_in (deliveries n) (step s setting).state) _ h4 in
        let (out, accepted) = answers_of (step s setting).outcome d in
        let (more, last, drains) = drains_in_lem (deliveries n) (step s setting).state e in
        record {
          script = elected n;
          cluster = c;
          is = is;
          size = eqb-true (servers_of c) n a;
          server = 0;
          quiet = is_quiet c 0 b;
          line = setting;
          out = out;
          call = record { words = set (0x61 ∷ []) (some (0x01 ∷ [])); reads = set_line; accepted = accepted };
          more = more;
          last = last;
          drains = drains;
        }

pub least : NoSmaller
unfolding computing testing accepts emptied is_any_in_flight drains_in reached_by
least zero h k = absurd (omega arith)
least (suc zero) h k = least_by 1 refl
least (suc (suc zero)) h k = least_by 2 refl
least (suc (suc (suc zero))) h k = least_by 3 refl
least (suc (suc (suc (suc zero)))) h k = least_by 4 refl
least (suc (suc (suc (suc (suc zero))))) h k = least_by 5 refl
least (suc (suc (suc (suc (suc (suc zero)))))) h k = least_by 6 refl
least (suc (suc (suc (suc (suc (suc (suc zero))))))) h k = least_by 7 refl
least (suc (suc (suc (suc (suc (suc (suc (suc n)))))))) h k = absurd (omega arith)
