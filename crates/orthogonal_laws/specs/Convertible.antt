-- Terms that are joined by steps in both directions.
use Rattle.eq_base.specs.Tree.{Tree}
use Rattle.eq_base.specs.Rewriting.{System, Step}

-- t and u are convertible: joined by steps, each in one direction or the other
pub data IsConvertible {H : Type 0} (system : System H) : Tree H → Tree H → Type 0 where
  same : {t : Tree H} → IsConvertible system t t
  forth : {t u v : Tree H} → Step system t u → IsConvertible system u v → IsConvertible system t v
  back : {t u v : Tree H} → Step system u t → IsConvertible system u v → IsConvertible system t v
