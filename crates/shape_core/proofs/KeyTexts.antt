-- The texts of keys, field by field.
use Rattle.std.proofs.Common.{◌≡◌, ℕ, suc, ◌+◌, ◌<◌, List, [], ◌∷◌, ◌++◌, length, map, take, get_or, Option, Some, None, Bool, true, false, ◌||◌, bytes_eq, refl, sym, ap, ◌∙◌, arith, take-suc}
use Rattle.std.specs.List.{cons_option}
use Rattle.std.proofs.lemmas.List.{map-append}
use Rattle.semantics_lines.specs.Shapes.{Field, effective_name}
use Rattle.semantics.specs.Registry.{has_pair, key_texts, repeats_field}
use Rattle.shape_core.specs.Names.{own_texts}
use Rattle.shape_types.specs.declared.field.Field.{Field as DeclaredField}
use Rattle.shape_types.specs.Shapes.{field_of}
use Rattle.shape_core.proofs.Tables.{pair_map}

-- the keys of one field more
texts_push : (fs : List Field) (f : Field) → key_texts (fs ++ f ∷ []) ≡ key_texts fs ++ own_texts f
texts_push [] f = refl
texts_push (e ∷ fs) f = ap (λ l. effective_name e ∷ cons_option e.alias l) (texts_push fs f) ∙ ap (λ l. effective_name e ∷ l) (moved e.alias (key_texts fs) (own_texts f))
  where
    moved : (o : Option (List ℕ)) (xs ys : List (List ℕ)) → cons_option o (xs ++ ys) ≡ cons_option o xs ++ ys
    moved None xs ys = refl
    moved (Some x) xs ys = refl

-- the same, of a front of the fields
pub texts_next : (fields : List DeclaredField) (i : ℕ) (f : DeclaredField) (keys new : List (List ℕ)) → i < length fields → f ≡ get_or fields i f → keys ≡ key_texts (map field_of (take i fields))
    → new ≡ keys ++ own_texts (field_of f) → new ≡ key_texts (map field_of (take (i + 1) fields))
texts_next fields i f keys new lt is so_far more =
    let next : i + 1 ≡ suc i = omega arith in
    more
    ∙ ap (λ l. l ++ own_texts (field_of f)) so_far
    ∙ ap (λ (e : DeclaredField). key_texts (map field_of (take i fields)) ++ own_texts (field_of e)) is
    ∙ sym (
    ap (λ n. key_texts (map field_of (take n fields))) next
    ∙ ap (λ l. key_texts (map field_of l)) (take-suc fields i f lt)
    ∙ ap key_texts (map-append field_of (take i fields) (get_or fields i f ∷ []))
    ∙ texts_push (map field_of (take i fields)) (field_of (get_or fields i f))
    )

same_names : (fields : List DeclaredField) → has_pair (λ f e. bytes_eq f.name e.name) (map field_of fields) ≡ has_pair (λ (f e : DeclaredField). bytes_eq f.name e.name) fields
same_names fields = pair_map (λ f e. bytes_eq f.name e.name) field_of fields

-- two fields of one name
pub repeats_name : (fields : List DeclaredField) → true ≡ has_pair (λ (f e : DeclaredField). bytes_eq f.name e.name) fields → true ≡ repeats_field (map field_of fields)
repeats_name fields is = sym (ap (λ b. b || has_pair bytes_eq (key_texts (map field_of fields))) (same_names fields ∙ sym is))

-- fields whose names differ, by their keys
pub repeats_key : (fields : List DeclaredField) (b : Bool) → false ≡ has_pair (λ (f e : DeclaredField). bytes_eq f.name e.name) fields → b ≡ has_pair bytes_eq (key_texts (map field_of fields)) → b ≡ repeats_field (map field_of fields)
repeats_key fields b none is = is ∙ sym (ap (λ c. c || has_pair bytes_eq (key_texts (map field_of fields))) (same_names fields ∙ sym none))
