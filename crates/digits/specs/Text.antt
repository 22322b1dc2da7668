-- Texts that are printed in document 01, as string literals.
use Rattle.std.specs.Prelude.{ℕ, List, [] as none, ◌∷◌ as ◌and◌}
use Prim.Native.Char.{code}
use Prim.Native.String.{String, [], ◌∷◌}

-- the bytes of a text, of which every character is one byte
unfoldable pub codes : String → List ℕ
codes [] = none
codes (c ∷ s) = code c and codes s
