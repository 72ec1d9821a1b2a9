use Rattle.std.proofs.Common.{sym, refl}
use Rattle.std.proofs.lemmas.Result.{err_from_is_err_and}
use Rattle.named_listing.proofs.Naming.{no_policy}
use Rattle.named_listing.proofs.texts.played.Goals as goal

pub returns-in_err-name : goal.returns-in_err-name
returns-in_err-name c =
    let p = err_from_is_err_and c.from_residual.result c.from_residual.ensures.1 in
    rw (p.1, p.2, c.in_err-name.ensures.0) (sym (no_policy c.args.text.now _ c.first_space-end.result c.first_space-end.ensures.end refl c.in_err-name.ensures.1))
