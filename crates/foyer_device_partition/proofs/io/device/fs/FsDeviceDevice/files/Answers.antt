use Rattle.std.proofs.Common.{◌≡◌, ℕ, suc, ◌+◌, List, [], ◌∷◌, ◌++◌, map, string_bytes, refl, ap, ◌∙◌, arith}
use Rattle.foyer_device_partition.specs.Paths.{partition_path, first_paths}
use Rattle.foyer_device_partition.proofs.io.device.fs.FsDeviceDevice.files.Goals as goal

map_push : {X Y : Type 0} (f : X → Y) (xs : List X) (x : X) → map f (xs ++ x ∷ []) ≡ map f xs ++ f x ∷ []
map_push f [] x = refl
map_push f (y ∷ ys) x = ap (λ zs. f y ∷ zs) (map_push f ys x)

one_more : (dir : List ℕ) (n : ℕ) → first_paths dir n ++ partition_path dir n ∷ [] ≡ first_paths dir (n + 1)
one_more dir n = ap (first_paths dir) (let e : suc n ≡ n + 1 = omega arith in e)

pub loop-id-preserved : goal.loop-id-preserved
loop-id-preserved g c =
    let dir : List ℕ = string_bytes c.args.self.now.dir in
    let paths = c.loop-id.paths.items in
    let path = c.in_ok-path.path in (
      omega (arith, c.in_ok-push.ensures.len, c.loop-id.invariant.0),
      ap (map string_bytes) c.in_ok-push.ensures.items ∙ map_push string_bytes paths path
          ∙ ap (λ t. t ++ string_bytes path ∷ []) c.loop-id.invariant.1
          ∙ ap (λ t. first_paths dir c.loop-id.id ++ t ∷ []) c.in_ok-path.ensures ∙ one_more dir c.loop-id.id,
    )
