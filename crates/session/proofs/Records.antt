-- The record of a session, read newest first.
use Rattle.std.proofs.Common.{◌≡◌, ℕ, ◌+◌, ◌-◌, ◌<◌, ◌≤◌, true, List, [], ◌∷◌, ◌++◌, map, reverse, length, take, Option, Some, None, Err, refl, ap, ◌∙◌, sym, inl, inr, arith}
use Rattle.std.proofs.lemmas.Bool.{cases_Bool, eqb-true, eqb-false, and_from, and_parts, lt-ltb, ltb-true}
use Rattle.std.proofs.lemmas.List.{length-map, length-reverse, reverse-append, take_more, take_all}
use Rattle.std.proofs.lemmas.Option.{get_or_from_slice_get, slice_get-get_or}
use Rattle.std.specs.List.{find}
use Rattle.std.specs.Option.{ok_or}
use Rattle.std.specs.Prelude.{◌==◌, ◌&&◌, nat_lt, slice_get, MatchOption}
use mathlib.Core.List.{reverse_aux}
use Rattle.session.specs.Ledger.{Span, Among}
use Rattle.allocator.specs.declared.Allocator.{Ghosts}
use Rattle.session.specs.Records.{recorded, live, Unique, NotAmong, Found}
use Rattle.session.specs.Sessions.{state}
use Rattle.session.specs.declared.session.Session.{Session}
use Rattle.session.proofs.Grants.{unique}
use Rattle.session.specs.declared.live.LiveSpan.{LiveSpan}

-- where `ok_or` gives an error, there was nothing
pub nothing : {X E : Type 0} (o : Option X) (e f : E) → Err f ≡ ok_or o e → (o ≡ None) × (f ≡ e)
nothing None e f is = (refl, cc)
nothing (Some x) e f is = absurd cc

pub live-length : (spans : List LiveSpan) → length (live spans) ≡ length spans
live-length spans = length-map (reverse spans) recorded ∙ length-reverse spans

-- a record that is put last is the newest
pub live-more : (spans : List LiveSpan) (span : LiveSpan) → live (spans ++ span ∷ []) ≡ recorded span ∷ live spans
live-more spans span = ap (map recorded) (reverse-append spans (span ∷ []))

pub live-none : (spans : List LiveSpan) → slice_get spans (length spans - 1) ≡ None → live spans ≡ []
live-none [] last = refl
live-none (first ∷ spans) last = absurd (let is = slice_get-get_or (first ∷ spans) (length (first ∷ spans) - 1) first (omega arith) in cc)

pub live-newest : (spans : List LiveSpan) (newest : LiveSpan) → slice_get spans (length spans - 1) ≡ Some newest →
    live spans ≡ recorded newest ∷ live (take (length spans - 1) spans)
live-newest [] newest last = absurd cc
live-newest (first ∷ spans) newest last =
    let all = first ∷ spans in
    let count : length all - 1 + 1 ≡ length all = omega arith in
    let is : all ≡ take (length all - 1) all ++ newest ∷ [] =
    sym (ap (λ n. take n all) count ∙ take_all (length all) all (omega arith)) ∙ take_more all (length all - 1) newest (omega arith)
    ∙ ap (λ x. take (length all - 1) all ++ x ∷ []) (get_or_from_slice_get all (length all - 1) newest newest last) in
    ap live is ∙ live-more (take (length all - 1) all) newest

-- what a search of the record finds is live, and has the grant
module _ (grant : ℕ) where
  stays : (spans below : List LiveSpan) (span : Span) → Among span (map recorded below) → Among span (map recorded (reverse_aux spans below))
  stays [] below span here = here
  stays (first ∷ spans) below span here = stays spans (first ∷ below) span (inr here)

  pub found : (spans below : List LiveSpan) → NotAmong (map recorded below) grant →
      MatchOption (find (λ span. span.grant == grant) spans) (NotAmong (map recorded (reverse_aux spans below)) grant) (λ span. Found (map recorded (reverse_aux spans below)) grant span)
  found [] below none = none
  found (first ∷ spans) below none = elim (cases_Bool (first.grant == grant)) [
    | inl yes' ↦ rw yes' (stays spans (first ∷ below) (recorded first) (inl refl), eqb-true first.grant grant yes')
    | inr no' ↦ rw no' (found spans (first ∷ below) (λ span here e. elim here [
      | inl is ↦ absurd (eqb-false first.grant grant no' (sym (ap (λ (x : Span). x.grant) is) ∙ e))
      | inr there ↦ none span there e
    ]))
  ]

-- in every session a grant is one live span's
pub grants-unique : {A : Type 0} (al : Ghosts A) (s : Session A) → Unique (state al s).live
grants-unique al s one other = unique (s.given + 1) (live s.spans.items) one other s.numbered
