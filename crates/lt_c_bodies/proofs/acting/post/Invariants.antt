use Rattle.std.proofs.Common.{◌≡◌, ◌++◌, take}
use Rattle.lt_c_heads.specs.Words.{made_from}
use Rattle.lt_c_bodies.specs.Acts.{post_of}
use Rattle.lt_c_bodies.proofs.acting.post.Given as goal

abbrev pub invariant-values : goal.invariant-values
invariant-values l = l.posts ≡ l.initial.posts ++ made_from (post_of l.j) 0 (take l.k l.values)
