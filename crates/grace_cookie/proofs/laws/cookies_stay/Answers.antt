use Rattle.grace_cookie.proofs.Keeping.{cookies_stay}
use Rattle.grace_cookie.proofs.laws.cookies_stay.Goals as goal

pub returns : goal.returns
returns c = cookies_stay
