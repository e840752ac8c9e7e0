use Rattle.std.specs.Str.{chars}
use Rattle.dw_like.proofs.Splits.{IsLike-goes_like, goes_like-IsLike}
use Rattle.dw_like.proofs.laws.like_is_a_split.Goals as goal

pub returns : goal.returns
returns c = λ text pattern. (
  IsLike-goes_like (chars pattern) (chars text),
  goes_like-IsLike (chars text) (chars pattern),
)
