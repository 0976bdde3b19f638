-- The tests of the hypotheses are enough for them.
use mathlib.Core.Path.{◌≡◌, refl}
use mathlib.Core.List.{List, [], ◌∷◌, map}
use mathlib.Core.Bool.{Bool, true, false, not}
use mathlib.Core.Option.{Option, none, some}
use Prim.Native.Nat.{ℕ, zero, suc, ◌+◌, ◌≤◌, ◌<◌}
use native.Mathlib.Omega.{arith}
use lib.Dec.{leb}
use lib.ListN.{length, get_or}
use borrow.Author.Tests.{leb-true}
use Rattle.model.specs.Measures.{majority, max_accepted}
use Rattle.model.specs.Cluster.{Role, follower, candidate, leading, Call, Server, Message, Cluster, fresh_server, call_at}
use Rattle.model.specs.Lines.{server_at, either, no_message, is_leading, present}
use Rattle.model.specs.Rows.{every}
use Rattle.quiet.specs.Statement.{servers_of, running, deliveries, Quiet}
use Rattle.quiet.specs.Tests.{votes_up_to, none_open, tests}

-- ---- a test of all

pub every_parts : (b : Bool) (l : List Bool) → every (b ∷ l) ≡ true → (b ≡ true) × (every l ≡ true)
unfolding every
every_parts true l e = (refl, e)
every_parts false l e = let z : ◌≡◌ {A = ℕ} 0 1 = cc in absurd (omega arith)

every_at : {A : Type 0} (test : A → Bool) (l : List A) (q : ℕ) (d : A) → every (map test l) ≡ true → q < length l → test (get_or l q d) ≡ true
every_at test [] q d e h = absurd (omega arith)
every_at test (a ∷ l) zero d e h = (every_parts (test a) (map test l) e).0
every_at test (a ∷ l) (suc q) d e h = every_at test l q d (every_parts (test a) (map test l) e).1 (omega arith)

-- ---- each of them

leads : (r : Role) → is_leading r ≡ true → r ≡ leading
unfolding is_leading
leads leading e = refl
leads follower e = let z : ◌≡◌ {A = ℕ} 0 1 = cc in absurd (omega arith)
leads candidate e = let z : ◌≡◌ {A = ℕ} 0 1 = cc in absurd (omega arith)

votes_up_to_lem : (e : ℕ) (s : Server) → votes_up_to e s ≡ true → s.stopped ≡ false → s.stored.vote ≤ e
unfolding votes_up_to either
votes_up_to_lem e s h up = leb-true s.stored.vote e (rw up at h)

pub empty_list : (l : List Message) → leb (length l) 0 ≡ true → l ≡ []
empty_list [] e = refl
empty_list (m ∷ l) e = absurd (omega (arith, leb-true (length (m ∷ l)) 0 e))

all_none : (l : List (Option Call)) → every (map (λ o. not (present o)) l) ≡ true → (b : ℕ) → get_or l b none ≡ none
unfolding every present
all_none [] h b = refl
all_none (none ∷ l) h zero = refl
all_none (none ∷ l) h (suc b) = all_none l h b
all_none (some c ∷ l) h b = let z : ◌≡◌ {A = ℕ} 0 1 = cc in absurd (omega arith)

none_open_lem : (l : List Server) → every (map none_open l) ≡ true → (q b : ℕ) → call_at (get_or l q (fresh_server 0 0)).volatile b ≡ none
unfolding every none_open fresh_server
none_open_lem [] h q b = refl
none_open_lem (s ∷ l) h zero b = all_none s.volatile.calls (every_parts (none_open s) (map none_open l) h).0 b
none_open_lem (s ∷ l) h (suc q) b = none_open_lem l (every_parts (none_open s) (map none_open l) h).1 q b

-- ---- all of them

pub is_quiet : (c : Cluster) (p : ℕ) → every (tests c p) ≡ true → Quiet c p
unfolding tests no_message
is_quiet c p h =
    let (a, h2) = every_parts (is_leading (server_at c p).volatile.role) _ h in
    let (b, h3) = every_parts (every (map (votes_up_to (server_at c p).stored.number) c.servers)) _ h2 in
    let (d, h4) = every_parts (leb (majority (servers_of c)) (running c.servers)) _ h3 in
    let (e, h5) = every_parts (no_message c 0) _ h4 in
    let (f, h6) = every_parts (every (map none_open c.servers)) _ h5 in
    let (g, h7) = every_parts (leb (c.accepted + (deliveries (servers_of c) + 1)) max_accepted) _ h6 in
    record {
      leads = leads _ a;
      highest = λ q k up. let yes = every_at (votes_up_to (server_at c p).stored.number) c.servers q (fresh_server 0 0) b k in omega (arith, votes_up_to_lem (server_at c p).stored.number (server_at c q) yes up);
      majority_runs = omega (arith, leb-true (majority (servers_of c)) (running c.servers) d);
      none_in_flight = empty_list c.messages e;
      none_open = none_open_lem c.servers f;
      lines_left = omega (arith, leb-true (c.accepted + (deliveries (servers_of c) + 1)) max_accepted g);
    }
