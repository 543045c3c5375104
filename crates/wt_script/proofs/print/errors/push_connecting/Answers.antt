use Rattle.wt_script.proofs.print.errors.push_connecting.Goals as goal

pub returns-in-InvalidRemoteAddress : goal.returns-in-InvalidRemoteAddress
returns-in-InvalidRemoteAddress c = rw c.in-InvalidRemoteAddress.is c.push_named_address.ensures
