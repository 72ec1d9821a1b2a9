use Rattle.std.proofs.Common.{length, string_bytes, sym, ◌∙◌, arith}
use Rattle.std.proofs.lemmas.Slice.Zip.{zip_end}
use Rattle.listing.proofs.Printing.{lines_end}
use Rattle.listing.proofs.listing.lines.Goals as goal

pub returns : goal.returns
returns c =
    let e = zip_end c.args.pages.now c.args.answers.now c.loop-page.yielded c.into_iter-page-iterator.result c.loop-page.page-iterator c.next.new.self _ (cc) (cc) c.loop-page.yielded_by c.in-None.is c.next.ensures.steps in
    sym (lines_end (string_bytes c.loop-page.out) c.args.pages.now c.args.answers.now (length c.loop-page.yielded) (omega arith)) ∙ c.loop-page.invariant
