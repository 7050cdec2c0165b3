-- That `number` finds the one number there. Assumes nothing.
use Rattle.std.proofs.Common.{◌++◌, decimal, sym, ap, ◌∙◌, subst, arith}
use Rattle.std.specs.Str.Parse.{digits_value}
use Rattle.cards.specs.Digits.{Canonical}
use Rattle.cards.proofs.Decimals.{run-number, run-rest, run-value, run-canonical}
use Rattle.cards.proofs.scan.number.Goals as goal

pub returns-in_err-to_number-clause-every : goal.returns-in_err-to_number-clause-every
returns-in_err-to_number-clause-every c =
    rw c.from_residual.ensures (λ n t ts small low is. c.in_err-to_number.ensures (subst Canonical (sym c.split_at.ensures.front) (run-canonical _ _ c.digits.ensures n t ts small low is)))

pub returns : goal.returns
returns c =
    let run = c.digits.ensures in
    let is = c.in_ok-to_number.ensures.1 ∙ ap (digits_value 10) c.split_at.ensures.front in
    let back = c.split_at.ensures.back in
    let found = run-number _ _ run (subst Canonical c.split_at.ensures.front c.in_ok-to_number.ensures.0) in
    record {
      begins = (omega (arith, found.0), found.1 ∙ (λ i. decimal (sym is i) ++ sym back i));
      every = λ n t ts small low here. (is ∙ run-value _ _ run n t ts small low here, back ∙ run-rest _ _ run n t ts small low here);
    }
