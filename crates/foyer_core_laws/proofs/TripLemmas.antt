-- A record's bytes are a record that holds its content.
use Rattle.std.proofs.Common.{◌≡◌, ◌^◌, nat_lt, Bool, true, false, ◌&&◌, if◌then◌else◌, length, Some, None, refl, sym, ap, ◌∙◌, arith}
use Rattle.std.proofs.lemmas.Bool.{ltb-true}
use Rattle.foyer_format_record.specs.Record.{record_bytes, pair_of}
use Rattle.foyer_format_record.specs.Record.Outcome.{Pair}
use Rattle.foyer_format_record.proofs.RecordLemmas.{pair_again}
use Rattle.foyer_core_model.specs.Record.{Outcome, Holds}
use Rattle.foyer_core_model.specs.Rules.{HasRoundTrip}
use Rattle.foyer_core_laws.specs.Content.{Content, Meaning}
use Rattle.foyer_core_laws.specs.CoreRules.{machine}
use Rattle.foyer_core_laws.specs.CoreRules.{outcome_of, has_record, IsEncoded}
use Rattle.foyer_core_settings.specs.Sizes.{AreValid}
use Rattle.foyer_core_settings.specs.declared.settings.Settings.{Settings}

pub left : (a b : Bool) → (a && b) ≡ true → a ≡ true
left true b e = refl
left false b e = absurd (cc)

pub right : (a b : Bool) → (a && b) ≡ true → b ≡ true
right true b e = e
right false b e = absurd (cc)

pub some_is : {X : Type 0} {x y : X} → Some x ≡ Some y → x ≡ y
some_is e = cc

pub round_trip : {K V P : Type 0} (m : Meaning K V P) (s : Settings) (sound : AreValid s)
    → HasRoundTrip (machine m s sound) (IsEncoded m.is_key m.is_value)
round_trip m s sound hash sequence c bytes small early is_encoded is = go (has_record c) refl is
  where
    with_flag : Bool → Outcome Content
    with_flag b = Holds (record { key = c.key; value = c.value; is_encodable = b })

    go : (t : Bool) → has_record c ≡ t → (if t then Some (record_bytes hash sequence c.key c.value) else None) ≡ Some bytes
        → outcome_of (pair_of m.is_key m.is_value bytes hash sequence) ≡ Holds c
    go true e some =
        let is_encodable : c.is_encodable ≡ true = left _ _ e in
        let lens : (nat_lt (length c.key) (2 ^ 32) && nat_lt (length c.value) (2 ^ 32)) ≡ true = right c.is_encodable _ e in
        let same : record_bytes hash sequence c.key c.value ≡ bytes = some_is some in
        let again : pair_of m.is_key m.is_value (record_bytes hash sequence c.key c.value) hash sequence ≡ Pair c.key c.value =
        pair_again m.is_key m.is_value hash sequence c.key c.value (omega arith) (omega arith)
        (ltb-true (length c.key) (2 ^ 32) (left _ _ lens)) (ltb-true (length c.value) (2 ^ 32) (right (nat_lt (length c.key) (2 ^ 32)) _ lens))
        (is_encoded is_encodable).0 (is_encoded is_encodable).1 in
        ap (λ b. outcome_of (pair_of m.is_key m.is_value b hash sequence)) (sym same) ∙ ap outcome_of again ∙ ap with_flag (sym is_encodable)
    go false e none = absurd (cc)
