use Rattle.std.proofs.Common.{◌≡◌, ℕ, ◌<◌, leb, Option, MatchOption, rules, tests, sym, subst, ◌∙◌}
use Rattle.std.specs.List.{find}
use Rattle.std.proofs.lemmas.Iterator.{YieldsList-from_slice}
use Rattle.std.proofs.lemmas.Iterator.Adapters.{option_map_id}
use Rattle.std.proofs.lemmas.Iterator.Consumers.{YieldsList-from_copied}
use Rattle.std.proofs.lemmas.Iterator.Search.{find_from_yields_List}
use Rattle.arena.specs.Powers.{LeastPower}
use Rattle.arena.proofs.Table.{doubling, first-power}
use Rattle.arena.proofs.power.least_power.Goals as goal

pub returns : goal.returns
returns c =
    let e : c.find.result ≡ find (leb c.args.n) (doubling 23 16) = sym (option_map_id c.find.result) ∙ find_from_yields_List (leb c.args.n) _ _ c.find.result c.find.ensures.ran (YieldsList-from_copied (YieldsList-from_slice (doubling 23 16) (search rules))) (λ x b q k. search (rules, tests)) in
    subst (λ (o : Option ℕ). MatchOption o (67108864 < c.args.n) (LeastPower c.args.n)) (sym e) (first-power c.args.n c.requires)
