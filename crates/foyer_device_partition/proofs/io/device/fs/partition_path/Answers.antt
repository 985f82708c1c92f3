use Rattle.std.proofs.Common.{◌≡◌, ◌++◌, codes, ap, ◌∙◌, refl, IfOk, string_bytes, Result, Ok, Err}
use Rattle.std.proofs.Padding.{padded_integral_zeros}
use Rattle.std.specs.Fmt.{styled_decimal}
use Rattle.std.specs.Prelude.{decimal}
use Rattle.foyer_device_partition.proofs.io.device.fs.partition_path.Goals as goal

on_ok : {T E : Type 0} {P Q : T → Type 0} (r : Result T E) → ((x : T) → P x → Q x) → IfOk r P → IfOk r Q
on_ok (Ok x) f is = f x is
on_ok (Err e) f is = is

pub returns : goal.returns
returns g c = on_ok c.format.result
    (λ path is. is
    ∙ ap (λ s. c.args.dir.now ++ (codes "/foyer-storage-direct-fs-" ++ styled_decimal s c.args.id)) c.laid_out.ensures
    ∙ ap (λ l. c.args.dir.now ++ (codes "/foyer-storage-direct-fs-" ++ l)) (padded_integral_zeros _ (decimal c.args.id) refl refl))
    c.format.ensures.ok
