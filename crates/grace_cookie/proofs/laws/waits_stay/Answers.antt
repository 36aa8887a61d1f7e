use Rattle.grace_cookie.proofs.Keeping.{waits_stay}
use Rattle.grace_cookie.proofs.laws.waits_stay.Goals as goal

pub returns : goal.returns
returns c = waits_stay
