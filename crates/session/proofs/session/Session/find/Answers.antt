use Rattle.std.proofs.Common.{[], rules, tests}
use Rattle.std.proofs.lemmas.Iterator.{YieldsList-from_slice}
use Rattle.std.proofs.lemmas.Iterator.Search.{find_from_yields_List}
use Rattle.std.specs.Prelude.{◌==◌}
use Rattle.session.proofs.Records.{found}
use Rattle.session.proofs.session.Session.find.Goals as goal

pub returns : goal.returns
returns g c =
    let first = find_from_yields_List (λ span. span.grant == c.args.grant) _ _ c.find.result c.find.ensures.ran (YieldsList-from_slice c.args.self.now.spans.items cc) (λ x b q k. search (rules, tests)) in
    rw (c.copied.ensures, first) (found c.args.grant c.args.self.now.spans.items [] (λ span here. absurd here))
