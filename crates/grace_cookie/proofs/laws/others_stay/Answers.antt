use Rattle.grace_cookie.proofs.Giving.{others_stay}
use Rattle.grace_cookie.proofs.laws.others_stay.Goals as goal

pub returns : goal.returns
returns c = others_stay
