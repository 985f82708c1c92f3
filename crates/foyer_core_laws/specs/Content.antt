-- What a core sees of keys and values: their encodings.
use Rattle.std.specs.Prelude.{ℕ, Bool, ◌&&◌, List, Option, [], ◌∷◌, None, Some}
use Rattle.foyer_format_record.specs.declared.serde.ages.Age.{Age}
use Rattle.foyer_policy_piece.specs.Referred.{Referred}

-- a key and a value, encoded, and whether both can be encoded
pub record Content : Type 0 where
  pub key : List ℕ
  pub value : List ℕ
  pub is_encodable : Bool

-- what the codes and the properties of a core's pieces say
pub record Meaning (K V P : Type 0) : Type 0 where
  pub key_of : K → List ℕ
  pub value_of : V → List ℕ
  pub is_encodable : K → V → Bool
  pub is_key : List ℕ → Bool
  pub is_value : List ℕ → Bool
  pub age_of : P → Option Age

-- the meaning that codes and properties give
abbrev pub meaning : {K V P : Type 0} → (K → List ℕ) → (V → List ℕ) → (K → Bool) → (V → Bool) → (List ℕ → Bool) → (List ℕ → Bool)
    → (P → Option Age) → Meaning K V P
meaning key_of value_of encodes_key encodes_value is_key is_value age_of = record {
  key_of = key_of;
  value_of = value_of;
  is_encodable = λ key value. encodes_key key && encodes_value value;
  is_key = is_key;
  is_value = is_value;
  age_of = age_of;
}

abbrev pub content : {K V P : Type 0} → Meaning K V P → K → V → Content
content m key value = record { key = m.key_of key; value = m.value_of value; is_encodable = m.is_encodable key value }

-- the contents of pieces that have their sequences beside them
abbrev pub contents_of : List (ℕ × Content) → List Content
contents_of [] = []
contents_of (p ∷ ps) = p.1 ∷ contents_of ps

-- of a piece
abbrev pub content_of : {K V P : Type 0} → Meaning K V P → Referred K V P → Content
content_of m piece = content m piece.piece.key piece.piece.value

-- the content of a piece that is returned, if one is
abbrev pub returned : {K V P : Type 0} → Meaning K V P → Option (Referred K V P) → Option Content
returned m None = None
returned m (Some piece) = Some (content_of m piece)
