use Rattle.std.proofs.Common.{◌≡◌, is_ok, sym, ap, ◌∙◌, rules}
use Rattle.merge.specs.Checks.{merge_grounds}
use Rattle.merge.proofs.Checking.{checked_from}
use Rattle.merge.proofs.view_change.ViewChange.check.Goals as goal

pub returns : goal.returns
returns g c =
    let a = c.args in
    let s = g.R.Register.held a.register.now in
    let tried : c.check_backing.result ≡ merge_grounds s a.self a.picks.now a.base =
    search rules in
    record {
      grounds = tried;
      meaning = λ ok. checked_from s a.self a.picks.now a.base (sym (ap is_ok tried) ∙ ok);
    }
