use borrow.Author.Tests.{tests}
use Rattle.std.proofs.Common.{arith, rules}
use Rattle.std.proofs.lemmas.Bool.Decides.{nat_tests}
use Rattle.std.proofs.lemmas.Iterator.{YieldsList-from_slice}
use Rattle.std.proofs.lemmas.Iterator.Search.{position_from_yields_List}
use Rattle.listing.specs.Numbers.{is_space}
use Rattle.named_listing.proofs.Naming.{word_ends}
use Rattle.named_listing.proofs.name.first_space.Goals as goal

pub returns-clause-end : goal.returns-clause-end
returns-clause-end c =
    let e = position_from_yields_List is_space _ _ c.position.result c.position.ensures.ran (YieldsList-from_slice c.args.text.now cc) (λ x b q k. search (rules, tests)) in
    let w = word_ends c.args.text.now c.position.result e in
    grind (arith, nat_tests)
