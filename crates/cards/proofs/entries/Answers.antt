-- What each step of the loop and each way out of `entries` shows. Assumes nothing.
use Rattle.std.proofs.Common.{◌≡◌, ◌≢◌, ◌+◌, true, false, eqb, List, [], ◌∷◌, drop, sym, ap, ◌∙◌, subst, arith}
use Rattle.std.specs.Bool.{MatchBool, then_some}
use Rattle.std.specs.Cmp.Lexicographic.{pointwise, told_text}
use Rattle.std.specs.Option.{MatchOption}
use Rattle.cards.specs.Read.{Lines}
use Rattle.cards.specs.declared.Entry.{Entry}
use Rattle.cards.proofs.Lines.{Apart, upcoming, one-more, all-seen, no-other, apart-more, apart-last, apart-next}
use Rattle.cards.proofs.entries.Goals as goal
use Rattle.cards.proofs.entries.Goals.{then-i-letters+in_ok-rest, else-i-letters}

pub returns-in_err-entry : goal.returns-in_err-entry
returns-in_err-entry c =
    rw c.from_residual.ensures (λ es h.
    let f = (upcoming c.loop-i.invariant.2 es (omega arith) h).2 in
    c.in_err-entry.ensures.every f.entry f.end f.next f.sound f.named f.low f.begins)

pub returns-in_err-rest : goal.returns-in_err-rest
returns-in_err-rest c =
    rw c.from_residual-in_err-rest.ensures (λ es h.
    let f = (upcoming c.loop-i.invariant.2 es (omega arith) h).2 in
    let same = c.in_ok-entry.ensures.every f.entry f.end f.next f.sound f.named f.low f.begins in
    c.in_err-rest.ensures f.rest (same.1 ∙ apart-next c.args.letters.now _ _ (c.loop-i.i + 1) (omega arith) f.apart))

pub loop-i-preserved : goal.loop-i-preserved
loop-i-preserved c =
    let begins = c.in_ok-entry.ensures.begins in
    let apart : Apart (drop (c.loop-i.i + 1) c.args.letters.now) c.in_ok-entry.next.now c.if-i-letters.rest.now =
    elim c.if-i-letters.branch [
      | then-i-letters+in_ok-rest w ↦
          apart-more c.args.letters.now _ _ (c.loop-i.i + 1) w.if-i-letters.true (w.in_ok-rest.ensures ∙ ap (λ r. 32 ∷ r.now) (sym w.rest-is))
      | else-i-letters w ↦
          subst (λ r. Apart (drop (c.loop-i.i + 1) c.args.letters.now) c.in_ok-entry.next.now r.now) (sym w.rest-is) (apart-last c.args.letters.now _ (c.loop-i.i + 1) w.if-i-letters.false)
    ] in (
      omega (arith, c.push_reserved.ensures.len),
      omega (arith, c.push_reserved.ensures.capacity),
      rw c.push_reserved.ensures.items
          (one-more c.loop-i.invariant.2 c.in_ok-entry.entry c.in_ok-entry.next.now c.if-i-letters.rest.now (omega arith) begins.0 begins.1 begins.2 apart (λ e t ts. c.in_ok-entry.ensures.every e t ts)),
    )

pub returns : goal.returns
returns c =
    let ended = told_text c.loop-i.rest.now (10 ∷ []) c.eq.result (c.eq.ensures ∙ ap (pointwise eqb c.loop-i.rest.now) c.as_slice.ensures) in
    rw c.then_some.ensures (elim c.eq.result as (λ b. MatchBool b (c.loop-i.rest.now ≡ 10 ∷ []) (c.loop-i.rest.now ≢ 10 ∷ []) → MatchOption (then_some b c.loop-i.entries) ((es : List Entry) → Lines c.args.letters.now c.args.sizes.now es → ⊥) (λ v. Lines c.args.letters.now c.args.sizes.now v.items)) [
      | true ↦ λ is. all-seen c.loop-i.invariant.2 (omega arith) is
      | false ↦ λ not es h. not (no-other c.loop-i.invariant.2 (omega arith) es h)
    ] ended)
