-- Texts as bytes, so that definitions and examples can be read. Assumes nothing.
use Rattle.std.specs.Prelude.{ℕ, List, [], ◌∷◌}
use Prim.Native.Char.{code}
use Prim.Native.String.{String, [] as no_text, ◌∷◌ as ◌before◌}

-- the bytes of a text, a byte for each character: ASCII where the text is
unfoldable pub ascii : String → List ℕ
ascii no_text = []
ascii (character before text) = code character ∷ ascii text
