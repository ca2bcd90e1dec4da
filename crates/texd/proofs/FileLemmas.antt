-- Files that a shelf hands in, one after another.
use Rattle.std.proofs.Common.{◌≡◌, ℕ, zero, suc, ◌+◌, ◌*◌, ◌<◌, ◌≤◌, List, [], ◌∷◌, ◌++◌, Option, length, get_or, take, refl, sym, subst, arith}
use Rattle.tx_bytes.specs.Shelves.{Named}
use Rattle.texd.proofs.EarlyLemmas.{name-at}
use Rattle.texd.specs.Files.{IsHanded, AreHanded, total}

handed-last : (told : Option (List Named)) (names : List (List ℕ)) (k : ℕ) (files : List Named) (file : Named) → k < length names → AreHanded told (take k names) files → IsHanded told (get_or names k []) file → AreHanded told (take (suc k) names) (files ++ file ∷ [])
handed-last told [] k files file h all one = absurd (omega arith)
handed-last told (name ∷ names) zero [] file h all one = (one, tt)
handed-last told (name ∷ names) zero (f ∷ files) file h all one = absurd all
handed-last told (name ∷ names) (suc k) [] file h all one = absurd all
handed-last told (name ∷ names) (suc k) (f ∷ files) file h all one = (all.0, handed-last told names k files file (omega arith) all.1 one)

-- one file more
pub handed-more : (told : Option (List Named)) (names : List (List ℕ)) (k : ℕ) (files more : List Named) (file : Named) → k < length names → more ≡ files ++ file ∷ [] → AreHanded told (take k names) files → IsHanded told (get_or names k []) file → AreHanded told (take (k + 1) names) more
handed-more told names k files more file h is all one =
    let next : suc k ≡ k + 1 = omega arith in
    subst (λ n. AreHanded told (take n names) more) next
    (subst (AreHanded told (take (suc k) names)) (sym is) (handed-last told names k files file h all one))

-- so many bytes they have at the most
pub handed-total : (told : Option (List Named)) (names : List (List ℕ)) (files : List Named) → AreHanded told names files → total files ≤ length names * 16777216
handed-total told [] [] all = omega arith
handed-total told [] (file ∷ files) all = absurd all
handed-total told (name ∷ names) [] all = absurd all
handed-total told (name ∷ names) (file ∷ files) all =
    let rest = handed-total told names files all.1 in
    omega (arith, rest, all.0.short)

-- the same of a shelf that tells the same files
pub handed-as : (told first : Option (List Named)) (names : List (List ℕ)) (k : ℕ) (name : List ℕ) (file : Named) → k < length names → name ≡ get_or names k name → told ≡ first → IsHanded told name file → IsHanded first (get_or names k []) file
handed-as told first names k name file h is same one =
    subst (λ t. IsHanded t (get_or names k []) file) same (subst (λ n. IsHanded told n file) (name-at names k name h is) one)
