-- A push under the rules answers fresh memory that fits the layout, and its pop undoes it.
use Rattle.std.proofs.Common.{◌≡◌, ℕ, ◌+◌, ◌-◌, ◌<◌, ◌≤◌, true, false, [], ◌∷◌, length, Ok, Result, sym, refl, ap, ◌∙◌, subst, inl, inr, arith}
use Rattle.std.proofs.lemmas.Bool.{both_ways, cases_Bool, cases_lt, leb-true, le-leb, cond-true, cond-false}
use Rattle.allocator.specs.Layouts.{pad}
use Rattle.allocator.specs.Memory.{Block, Memory, Lawful, top, inside, taken_in, within, taken, marked, fits, placed, pushed, full}
use Rattle.allocator.specs.Answers.{Push, fitted, further, refused, Pop}
use Rattle.allocator.specs.Laws.{Fresh, Served, Undone, Undoes}
use Rattle.allocator.specs.declared.fault.Fault.{Fault}
use Rattle.allocator.proofs.Pads.{pad-aligned, pad-aligns}
use Rattle.allocator.proofs.Spans.{spans-true, spans-from, spans-past, spans-wider, taken-cases, taken-newest, taken-older, untaken-both, untaken-outside, within-full, byte_at-full, taken-full}

-- what lies inside the newest block past its mark is not taken
past-top : (b : Block) (older : Memory) (x : ℕ) → Lawful (b ∷ older) → top b ≤ x → x < b.base + length b.bytes → taken (b ∷ older) x ≡ false
past-top b older x (mark, high, apart, filled, rest) past short =
    let in' : b.base ≤ x = omega arith in
    untaken-both b older x (spans-past b.base b.mark x past) (untaken-outside older x rest (apart x (spans-from b.base (length b.bytes) x in' short)))

fresh-fitted : (m : Memory) (size align : ℕ) → Lawful m → 0 < align → fits m size align ≡ true → Fresh m size align (placed m align) (pushed m size align)
fresh-fitted [] size align lawful some fit = absurd (both_ways false refl fit)
fresh-fitted (b ∷ older) size align lawful some fit =
    let room : pad (top b) align + size ≤ length b.bytes - b.mark = leb-true _ _ fit in
    let mark : b.mark ≤ length b.bytes = lawful.0 in
    let later = marked b (b.mark + (pad (top b) align + size)) in
    record {
      aligned = pad-aligns (top b) align some;
      last = (omega arith, omega arith);
      unaliased = λ x low high. past-top b older x lawful (omega arith) (omega arith);
      kept = λ x yes'. elim (taken-cases b older x yes') [
        | inl here ↦ taken-newest later older x (spans-wider b.base b.mark x later.mark (omega arith) here)
        | inr there ↦ taken-older later older x there
      ];
      same = λ x yes'. refl;
    }

fresh-further : (m : Memory) (size align : ℕ) (block : Block) → Lawful m → Lawful (block ∷ full m) → 0 < align → top block ≡ block.base + pad block.base align + size → Fresh m size align (block.base + pad block.base align) (block ∷ full m)
fresh-further m size align block lawful lawful' some ends =
    let mark : block.mark ≤ length block.bytes = lawful'.0 in
    let apart = lawful'.2 in
    record {
      aligned = pad-aligns block.base align some;
      last = (omega arith, sym ends);
      unaliased = λ x low high.
          untaken-outside m x lawful (sym (within-full m x) ∙ apart x (spans-from block.base (length block.bytes) x (omega arith) (omega (arith, ends))));
      kept = λ x yes'. taken-older block (full m) x (taken-full m x lawful yes');
      same = λ x yes'. elim (cases_Bool (inside block x)) [
        | inl new ↦ absurd (both_ways (within (full m) x) (apart x new) (within-full m x ∙ yes'))
        | inr old ↦ cond-false _ _ _ old ∙ byte_at-full m x
      ];
    }

module _ {m : Memory} {size align : ℕ} {r : Result ℕ Fault} {m' : Memory} where
  fresh-served : {at : ℕ} → r ≡ Ok at → Fresh m size align at m' → Served m size align r m'
  fresh-served e h = subst (λ t. Served m size align t m') (sym e) h

  pub push-served : Lawful m → Lawful m' → 0 < align → Push m size align r m' → Served m size align r m'
  push-served lawful lawful' some (fitted fit answer after) =
      fresh-served answer (subst (λ n. Fresh m size align (placed m align) n) (sym after) (fresh-fitted m size align lawful some fit))
  push-served lawful lawful' some (further fit block answer ends after) =
      fresh-served answer
      (subst (λ n. Fresh m size align (block.base + pad block.base align) n) (sym after)
      (fresh-further m size align block lawful (subst Lawful after lawful') some ends))
  push-served lawful lawful' some (refused fit cause answer after) = subst (λ t. Served m size align t m') (sym answer) after

-- a push that fits has one answer
pub push-fits : (m : Memory) (size align : ℕ) (r : Result ℕ Fault) (m' : Memory) → fits m size align ≡ true → Push m size align r m' → (r ≡ Ok (placed m align)) × (m' ≡ pushed m size align)
push-fits m size align r m' fit (fitted _ answer after) = (answer, after)
push-fits m size align r m' fit (further unfit block answer ends after) = absurd (both_ways (fits m size align) unfit fit)
push-fits m size align r m' fit (refused unfit cause answer after) = absurd (both_ways (fits m size align) unfit fit)

undone : (m : Memory) (size align at : ℕ) (m' : Memory) (r : Result (Unit {0}) Fault) (m'' : Memory) → Lawful m' → 0 < size → 0 < align → Fresh m size align at m' → Pop m' at r m'' → Undone m size align at m' r m''
undone m size align at [] r m'' lawful' some some' fresh pop = absurd fresh.last
undone m size align at (b ∷ older) r m'' lawful' some some' fresh pop =
    let low : b.base ≤ at = fresh.last.0 in
    let ends : at + size ≡ top b = fresh.last.1 in
    let mark : b.mark ≤ length b.bytes = lawful'.0 in
    let on : taken_in b at ≡ true = spans-from b.base b.mark at low (omega arith) in
    let earlier = marked b (at - b.base) in
    let back : m'' ≡ earlier ∷ older = pop.after ∙ ap (λ n. n ∷ older) (cond-true _ _ _ on) in
    let top_is : b.base + (at - b.base) ≡ at = omega arith in
    let none : pad (b.base + (at - b.base)) align ≡ 0 = ap (λ n. pad n align) top_is ∙ pad-aligned at align some' fresh.aligned in
    let span_end : b.base + b.mark ≤ b.base + length b.bytes = omega arith in
    subst (λ n. Undone m size align at (b ∷ older) r n) (sym back)
    (record {
      accepted = pop.answer ∙ cond-true (taken (b ∷ older) at) (Ok tt) _ (taken-newest b older at on);
      kept = λ x yes'. elim (taken-cases b older x (fresh.kept x yes')) [
        | inl here ↦
            let p = spans-true b.base b.mark x here in
            elim (cases_lt x at) [
              | inl below ↦ taken-newest earlier older x (spans-from b.base (at - b.base) x p.0 (omega arith))
              | inr above ↦ absurd (both_ways (taken m x) (fresh.unaliased x above (omega (arith, p.1))) yes')
            ]
        | inr there ↦ taken-older earlier older x there
      ];
      free = λ x first before.
          let in' : inside b x ≡ true = spans-from b.base (length b.bytes) x (omega arith) (omega arith) in
          untaken-both earlier older x (spans-past b.base (at - b.base) x (omega arith)) (untaken-outside older x lawful'.4 (lawful'.2 x in'));
      same = λ x. refl;
      room = le-leb _ _ (omega (arith, none));
      again = omega (arith, none);
    })

pub pop-undoes : (at : ℕ) (m' : Memory) (r : Result (Unit {0}) Fault) (m'' : Memory) → Lawful m' → Pop m' at r m'' → Undoes at m' r m''
pop-undoes at m' r m'' lawful' pop m size align lawful some some' push =
    undone m size align at m' r m'' lawful' some some' (push-served lawful lawful' some' push) pop
