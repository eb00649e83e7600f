-- Keys, as the definitions see them.
use Rattle.std.specs.Prelude.{true, List, [], ◌∷◌, Option, Some, None}
use Rattle.std.specs.Option.{option_map}
use Rattle.semantics_lines.specs.Texts.{Phrase}
use Rattle.semantics_lines.specs.Events.{Metadata, Note, Key, named, nameless}
use Rattle.shape_types.specs.Texts.{phrase_of}
use Rattle.event_core.specs.Metadata.{metadata_of, said}
use Rattle.event_core.specs.declared.key.FieldLocationHint.{FieldLocationHint}
use Rattle.event_core.specs.declared.key.FieldLocationHint.TheVariants.{KeyValue}
use Rattle.event_core.specs.declared.key.FieldKey.{FieldKey}
use Rattle.event_core.specs.declared.key.FieldKey.TheVariants.{Name, Full}

-- a key with metadata, with or without a name
abbrev pub full_key : Option Phrase → Metadata → Note → Key
full_key None m n = nameless m n
full_key (Some t) m n = named t (Some m) n

-- the key of an entry, at its place
abbrev pub key_of : FieldKey → Note → Key
key_of (Name t) n = named (phrase_of t) None n
key_of (Full k) n = full_key (option_map phrase_of k.name) (metadata_of k.meta) n

-- the name of a key
abbrev pub key_name : FieldKey → Option Phrase
key_name (Name t) = Some (phrase_of t)
key_name (Full k) = option_map phrase_of k.name

-- the metadata of a key, which a name alone has not
abbrev pub key_metadata : FieldKey → Option Metadata
key_metadata (Name t) = None
key_metadata (Full k) = Some (metadata_of k.meta)

-- where the value stands: behind its key, if nothing else is told
abbrev pub key_location : FieldKey → FieldLocationHint
key_location (Name t) = KeyValue
key_location (Full k) = k.location

-- what a key holds
pub record KeyParts : Type 0 where
  pub name : Option Phrase
  pub location : FieldLocationHint
  pub metadata : Option Metadata

-- the parts of a key
abbrev pub parts_of : FieldKey → KeyParts
parts_of k = record { name = key_name k; location = key_location k; metadata = key_metadata k }

-- the parts of a name alone
abbrev pub name_parts : Phrase → KeyParts
name_parts name = record { name = Some name; location = KeyValue; metadata = None }

-- the parts of a key with this tag and these lines of documentation
abbrev pub full_parts : Option Phrase → FieldLocationHint → Option Phrase → List Phrase → KeyParts
full_parts name location tag docs = record { name = name; location = location; metadata = Some (said tag docs) }

-- a name with lines of documentation; without a line it is a name alone
abbrev pub documented_parts : Phrase → FieldLocationHint → List Phrase → KeyParts
documented_parts name location [] = name_parts name
documented_parts name location (line ∷ lines) = full_parts (Some name) location None (line ∷ lines)

-- the tag of what has none: the text of no byte
abbrev pub empty_tag : Phrase
empty_tag = record { bytes = []; borrowed = true }
