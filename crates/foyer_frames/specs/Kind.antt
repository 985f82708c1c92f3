-- The letters of the kinds, and which of them have a key and a value.
use Rattle.std.specs.Prelude.{ℕ, Bool, true, false, Option, Some, None, ◌==◌, if◌then◌else◌}
use Rattle.foyer_frames.specs.declared.kind.Kind.{Kind}
use Rattle.foyer_frames.specs.declared.kind.Kind.TheVariants.{Put, Get, Delete, Contains, Wait, Counters, Destroy, Close, Version}

-- the letter of a kind: p, g, d, h, w, c, x, q, v
abbrev pub kind_byte : Kind → ℕ
kind_byte Put = 112
kind_byte Get = 103
kind_byte Delete = 100
kind_byte Contains = 104
kind_byte Wait = 119
kind_byte Counters = 99
kind_byte Destroy = 120
kind_byte Close = 113
kind_byte Version = 118

-- the kind of a letter
abbrev pub kind_of : ℕ → Option Kind
kind_of b =
    if b == 112 then Some Put
    else if b == 103 then Some Get
    else if b == 100 then Some Delete
    else if b == 104 then Some Contains
    else if b == 119 then Some Wait
    else if b == 99 then Some Counters
    else if b == 120 then Some Destroy
    else if b == 113 then Some Close
    else if b == 118 then Some Version
    else None

abbrev pub has_key : Kind → Bool
has_key Put = true
has_key Get = true
has_key Delete = true
has_key Contains = true
has_key Wait = false
has_key Counters = false
has_key Destroy = false
has_key Close = false
has_key Version = false

abbrev pub has_value : Kind → Bool
has_value Put = true
has_value Get = false
has_value Delete = false
has_value Contains = false
has_value Wait = false
has_value Counters = false
has_value Destroy = false
has_value Close = false
has_value Version = false
