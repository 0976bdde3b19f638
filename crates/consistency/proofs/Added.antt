-- One entry more is an addition by the server that it belongs to.
use mathlib.Core.Path.{◌≡◌, refl}
use mathlib.Core.Logic.{inl, inr}
use mathlib.Core.Option.{some}
use Prim.Native.Nat.{ℕ}
use Rattle.history.proofs.MemberLaws.{each_cons}
use Rattle.consistency.proofs.Log.{Vote, Win, Write, Accept, Report, Opened, Check, Begun, Ended, Log}
use Rattle.consistency.proofs.Claims.{Won}
use Rattle.consistency.proofs.Growth.{Adds, TakenAt}
use Rattle.consistency.proofs.Carry.{grows_vote, grows_win, grows_write, grows_accept, grows_report, grows_round, grows_check, grows_begun, grows_ended}
use Rattle.consistency.proofs.Acts.{add_vote, add_win, add_write, add_accept, add_report, add_round, add_check, add_begun, add_ended}

module _ (log : Log) where
  pub adds_vote : (x : Vote) → Adds x.server log (add_vote x log)
  adds_vote x =
      record {
        grows = grows_vote x;
        votes = each_cons (inr refl) (λ x m. inl m);
        wins = λ x m. inl m;
        writes = λ x m. inl m;
        accepts = λ x m. inl m;
        reports = λ x m. inl m;
        rounds = λ x m. inl m;
        ends = λ x m. inl m;
      }

  pub adds_win : (x : Win) → Adds x.leader log (add_win x log)
  adds_win x =
      record {
        grows = grows_win x;
        votes = λ x m. inl m;
        wins = each_cons (inr refl) (λ x m. inl m);
        writes = λ x m. inl m;
        accepts = λ x m. inl m;
        reports = λ x m. inl m;
        rounds = λ x m. inl m;
        ends = λ x m. inl m;
      }

  pub adds_write : (p : ℕ) (x : Write) → Won log x.at.election p → ((i : ℕ) → x.call ≡ some i → TakenAt log p i) → Adds p log (add_write x log)
  adds_write p x won taken =
      record {
        grows = grows_write x;
        votes = λ x m. inl m;
        wins = λ x m. inl m;
        writes = each_cons (inr (record { win = won.win; had = won.had; election = won.election; leader = won.leader }, taken)) (λ x m. inl m);
        accepts = λ x m. inl m;
        reports = λ x m. inl m;
        rounds = λ x m. inl m;
        ends = λ x m. inl m;
      }

  pub adds_accept : (x : Accept) → Adds x.server log (add_accept x log)
  adds_accept x =
      record {
        grows = grows_accept x;
        votes = λ x m. inl m;
        wins = λ x m. inl m;
        writes = λ x m. inl m;
        accepts = each_cons (inr refl) (λ x m. inl m);
        reports = λ x m. inl m;
        rounds = λ x m. inl m;
        ends = λ x m. inl m;
      }

  pub adds_report : (x : Report) → Adds x.server log (add_report x log)
  adds_report x =
      record {
        grows = grows_report x;
        votes = λ x m. inl m;
        wins = λ x m. inl m;
        writes = λ x m. inl m;
        accepts = λ x m. inl m;
        reports = each_cons (inr refl) (λ x m. inl m);
        rounds = λ x m. inl m;
        ends = λ x m. inl m;
      }

  pub adds_round : (x : Opened) → Adds x.leader log (add_round x log)
  adds_round x =
      record {
        grows = grows_round x;
        votes = λ x m. inl m;
        wins = λ x m. inl m;
        writes = λ x m. inl m;
        accepts = λ x m. inl m;
        reports = λ x m. inl m;
        rounds = each_cons (inr refl) (λ x m. inl m);
        ends = λ x m. inl m;
      }

  pub adds_check : (p : ℕ) (x : Check) → Adds p log (add_check x log)
  adds_check p x =
      record {
        grows = grows_check x;
        votes = λ x m. inl m;
        wins = λ x m. inl m;
        writes = λ x m. inl m;
        accepts = λ x m. inl m;
        reports = λ x m. inl m;
        rounds = λ x m. inl m;
        ends = λ x m. inl m;
      }

  pub adds_begun : (p : ℕ) (x : Begun) → Adds p log (add_begun x log)
  adds_begun p x =
      record {
        grows = grows_begun x;
        votes = λ x m. inl m;
        wins = λ x m. inl m;
        writes = λ x m. inl m;
        accepts = λ x m. inl m;
        reports = λ x m. inl m;
        rounds = λ x m. inl m;
        ends = λ x m. inl m;
      }

  pub adds_ended : (p : ℕ) (x : Ended) → TakenAt log p x.number → Adds p log (add_ended x log)
  adds_ended p x taken =
      record {
        grows = grows_ended x;
        votes = λ x m. inl m;
        wins = λ x m. inl m;
        writes = λ x m. inl m;
        accepts = λ x m. inl m;
        reports = λ x m. inl m;
        rounds = λ x m. inl m;
        ends = each_cons (inr taken) (λ x m. inl m);
      }
