use Rattle.grace_cookie.proofs.Using.{used_stay}
use Rattle.grace_cookie.proofs.laws.used_stay.Goals as goal

pub returns : goal.returns
returns c = used_stay
