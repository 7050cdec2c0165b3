-- Live spans by their grants, and the stores through them.
use Rattle.std.proofs.Common.{◌≡◌, ℕ, suc, ◌<◌, ◌≤◌, List, [], ◌∷◌, sym, ap, ◌∙◌, subst, inl, inr, arith}
use Rattle.session.specs.Ledger.{Span, Note, Among, LastStored}
use Rattle.session.specs.Records.{Numbered}
use Rattle.session.specs.Laws.{Separate, Each, AllSeparate}

-- no store was through a grant above `given`
abbrev pub Early : ℕ → List Note → Type 0
Early given [] = Unit {0}
Early given (note ∷ earlier) = (note.grant ≤ given) × Early given earlier

pub each-at : (P : Span → Type 0) (live : List Span) (span : Span) → Each P live → Among span live → P span
each-at P [] span ps here = absurd here
each-at P (first ∷ rest) span (p, ps) (inl e) = subst P (sym e) p
each-at P (first ∷ rest) span (p, ps) (inr there) = each-at P rest span ps there

pub each-map : (P Q : Span → Type 0) → ((span : Span) → P span → Q span) → (live : List Span) → Each P live → Each Q live
each-map P Q f [] tt = tt
each-map P Q f (span ∷ live) (p, ps) = (f span p, each-map P Q f live ps)

pub numbered-below : (next : ℕ) (live : List Span) (span : Span) → Numbered next live → Among span live → span.grant < next
numbered-below next [] span ns here = absurd here
numbered-below next (first ∷ rest) span (n, ns) (inl e) = omega (arith, ap (λ (x : Span). x.grant) e)
numbered-below next (first ∷ rest) span (n, ns) (inr there) = omega (arith, numbered-below first.grant rest span ns there)

pub numbered-more : (next more : ℕ) (live : List Span) → next < more → Numbered next live → Numbered more live
numbered-more next more [] le tt = tt
numbered-more next more (first ∷ rest) le (n, ns) = (omega arith, ns)

-- a grant has one live span
pub unique : (next : ℕ) (live : List Span) (one other : Span) → Numbered next live → Among one live → Among other live → one.grant ≡ other.grant → one ≡ other
unique next [] one other ns here here' e = absurd here
unique next (first ∷ rest) one other (n, ns) (inl p) (inl q) e = p ∙ sym q
unique next (first ∷ rest) one other (n, ns) (inl p) (inr q) e =
    absurd (omega (arith, ap (λ (x : Span). x.grant) p, numbered-below first.grant rest other ns q))
unique next (first ∷ rest) one other (n, ns) (inr p) (inl q) e =
    absurd (omega (arith, ap (λ (x : Span). x.grant) q, numbered-below first.grant rest one ns p))
unique next (first ∷ rest) one other (n, ns) (inr p) (inr q) e = unique first.grant rest one other ns p q e

-- two live spans of different grants share no byte
pub separate-at : (live : List Span) (one other : Span) → AllSeparate live → Among one live → Among other live → (one.grant ≡ other.grant → ⊥) → Separate one other
separate-at [] one other sep here here' ne = absurd here
separate-at (first ∷ rest) one other (s, ss) (inl p) (inl q) ne = absurd (ne (ap (λ (x : Span). x.grant) (p ∙ sym q)))
separate-at (first ∷ rest) one other (s, ss) (inl p) (inr q) ne = subst (λ x. Separate x other) (sym p) (each-at (Separate first) rest other s q)
separate-at (first ∷ rest) one other (s, ss) (inr p) (inl q) ne = subst (λ x. Separate one x) (sym q) (elim (each-at (Separate first) rest one s p) [ inl h ↦ inr h | inr h ↦ inl h ])
separate-at (first ∷ rest) one other (s, ss) (inr p) (inr q) ne = separate-at rest one other ss p q ne

pub early-last : (given : ℕ) (notes : List Note) (grant offset value : ℕ) → Early given notes → LastStored notes grant offset value → grant ≤ given
early-last given [] grant offset value es last = absurd last
early-last given (note ∷ earlier) grant offset value (e, es) (inl (eg, eo, ev)) = omega arith
early-last given (note ∷ earlier) grant offset value (e, es) (inr (ne, last)) = early-last given earlier grant offset value es last

pub early-more : (given : ℕ) (notes : List Note) → Early given notes → Early (suc given) notes
early-more given [] tt = tt
early-more given (note ∷ earlier) (e, es) = (omega arith, early-more given earlier es)
