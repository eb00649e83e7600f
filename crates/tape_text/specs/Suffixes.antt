-- Reading what stands behind the body of a line: a tag, and then lines of documentation.
use Rattle.std.specs.Prelude.{ℕ, zero, suc, List, [], ◌∷◌, length, codes, Option, None, Some, option_map, option_and_then}
use Rattle.semantics_lines.specs.Texts.{Phrase}
use Rattle.semantics_lines.specs.Events.{Metadata}
use Rattle.laws_lines.specs.Fronts.{strip}
use Rattle.laws_lines.specs.Quoted.{text_at}

abbrev pub Tagged : Type 0
Tagged = Option Phrase × List ℕ

abbrev pub tagged : Phrase × List ℕ → Tagged
tagged p = (Some p.0, p.1)

abbrev pub tag_in : List ℕ → Option (List ℕ) → Option Tagged
tag_in text None = Some (None, text)
tag_in text (Some rest) = option_map tagged (text_at rest)

-- a tag, where one stands there
unfoldable pub tag_at : List ℕ → Option Tagged
tag_at text = tag_in text (strip (codes " tag ") text)

-- a line of documentation
unfoldable pub doc_at : List ℕ → Option (Phrase × List ℕ)
doc_at text = option_and_then text_at (strip (codes " doc ") text)

abbrev pub doc_first : (List ℕ → Option (List Phrase)) → Option (Phrase × List ℕ) → Option (List Phrase)
doc_first docs None = None
doc_first docs (Some p) = option_map (λ ts. p.0 ∷ ts) (docs p.1)

-- the lines of documentation that the text is, so many at most
unfoldable pub docs_at : ℕ → List ℕ → Option (List Phrase)
docs_at n [] = Some []
docs_at zero (b ∷ bs) = None
docs_at (suc n) (b ∷ bs) = doc_first (docs_at n) (doc_at (b ∷ bs))

-- metadata with no place
abbrev pub metadata : Option Phrase → List Phrase → Metadata
metadata t docs = record { tag = t; docs = docs; span = None }

abbrev pub with_docs : Tagged → Option Metadata
with_docs x = option_map (metadata x.0) (docs_at (length x.1) x.1)

-- what the text tells beside an event: nothing where it is empty
unfoldable pub metadata_at : List ℕ → Option Metadata
metadata_at text = option_and_then with_docs (tag_at text)
