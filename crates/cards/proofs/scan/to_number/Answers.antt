-- That `to_number` reads just the digits of a number of a card: its running value fits, and is that of the digits so far. Assumes nothing.
use Rattle.std.proofs.Common.{ap, ◌∙◌, arith}
use Rattle.std.proofs.lemmas.List.{take_all}
use Rattle.std.specs.Str.Parse.{digits_value}
use Rattle.cards.proofs.Decimals.{value-step, value-small}
use Rattle.cards.proofs.scan.to_number.Goals as goal

pub overflow_mul-n : goal.overflow_mul-n
overflow_mul-n c = omega (arith, value-small c.args.digits.now c.loop-digit.digit-index c.requires (omega arith) (omega arith))

pub overflow_add-n : goal.overflow_add-n
overflow_add-n c =
    omega (arith, value-small c.args.digits.now c.loop-digit.digit-index c.requires (omega arith) (omega arith), c.requires c.loop-digit.digit-index (omega arith))

pub loop-digit-preserved : goal.loop-digit-preserved
loop-digit-preserved c = omega (arith, value-step c.args.digits.now c.loop-digit.digit-index c.requires (omega arith))

pub returns : goal.returns
returns c =
    let whole = take_all c.loop-digit.digit-index c.args.digits.now (omega arith) in
    (record { some = grind arith; few = grind arith; zero = λ first. grind arith }, c.loop-digit.invariant ∙ ap (digits_value 10) whole)
