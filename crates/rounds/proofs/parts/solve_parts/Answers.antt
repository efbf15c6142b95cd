-- `rounds::parts::solve_parts` meets its contract: the products of so many rows and unknowns, and the triangle of so many rows, are small, so no sum wraps. Assumes nothing.
use mathlib.Core.Path.{◌≡◌}
use Prim.Native.Nat.{◌*◌, ◌≤◌}
use native.Mathlib.Nat.{mul-le-mul}
use native.Mathlib.Omega.{arith}
use Rattle.least_squares.specs.Triangle.{triangle}
use Rattle.least_squares.proofs.TriangleLaws.{triangle_few}
use Rattle.scene.specs.declared.scene.Scene.{Scene as SceneStruct}
use Rattle.rounds.proofs.parts.solve_parts.Goals as goal

-- of so many rows and unknowns, the products stay small
products : (c : SceneStruct) → c.rows ≤ 896 → c.n ≤ 384 → (c.rows * c.n ≤ 344064) × (c.rows * c.rows ≤ 802816)
products c h l = (mul-le-mul h l, mul-le-mul h h)

pub overflow_add-slopes : goal.overflow_add-slopes
overflow_add-slopes c = omega (arith, products c.args.scene (omega arith) (omega arith))

pub overflow_mul-matrix : goal.overflow_mul-matrix
overflow_mul-matrix c = omega (arith, products c.args.scene (omega arith) (omega arith))

pub overflow_add-matrix : goal.overflow_add-matrix
overflow_add-matrix c = omega (arith, products c.args.scene (omega arith) (omega arith))

pub overflow_add-weights : goal.overflow_add-weights
overflow_add-weights c =
    let few : let r = c.args.scene.rows in (c.places.result ≡ triangle r) × (triangle r ≤ 401856) =
    (c.places.ensures, triangle_few c.args.scene.rows (omega arith)) in
    omega (arith, products c.args.scene (omega arith) (omega arith), few)

pub overflow_add-damped : goal.overflow_add-damped
overflow_add-damped c =
    let few : let r = c.args.scene.rows in (c.places.result ≡ triangle r) × (triangle r ≤ 401856) =
    (c.places.ensures, triangle_few c.args.scene.rows (omega arith)) in
    omega (arith, products c.args.scene (omega arith) (omega arith), few)

pub overflow_mul-right : goal.overflow_mul-right
overflow_mul-right c =
    let few : let r = c.args.scene.rows in (c.places.result ≡ triangle r) × (triangle r ≤ 401856) =
    (c.places.ensures, triangle_few c.args.scene.rows (omega arith)) in
    omega (arith, products c.args.scene (omega arith) (omega arith), few)

pub overflow_add-right : goal.overflow_add-right
overflow_add-right c =
    let few : let r = c.args.scene.rows in (c.places.result ≡ triangle r) × (triangle r ≤ 401856) =
    (c.places.ensures, triangle_few c.args.scene.rows (omega arith)) in
    omega (arith, products c.args.scene (omega arith) (omega arith), few)

pub overflow_add-at : goal.overflow_add-at
overflow_add-at c =
    let few : let r = c.args.scene.rows in (c.places.result ≡ triangle r) × (triangle r ≤ 401856) =
    (c.places.ensures, triangle_few c.args.scene.rows (omega arith)) in
    omega (arith, products c.args.scene (omega arith) (omega arith), few)

pub overflow_add-next : goal.overflow_add-next
overflow_add-next c =
    let few : let r = c.args.scene.rows in (c.places.result ≡ triangle r) × (triangle r ≤ 401856) =
    (c.places.ensures, triangle_few c.args.scene.rows (omega arith)) in
    omega (arith, products c.args.scene (omega arith) (omega arith), few)

pub overflow_add-ahead : goal.overflow_add-ahead
overflow_add-ahead c =
    let few : let r = c.args.scene.rows in (c.places.result ≡ triangle r) × (triangle r ≤ 401856) =
    (c.places.ensures, triangle_few c.args.scene.rows (omega arith)) in
    omega (arith, products c.args.scene (omega arith) (omega arith), few)

pub overflow_add-poses : goal.overflow_add-poses
overflow_add-poses c =
    let few : let r = c.args.scene.rows in (c.places.result ≡ triangle r) × (triangle r ≤ 401856) =
    (c.places.ensures, triangle_few c.args.scene.rows (omega arith)) in
    omega (arith, products c.args.scene (omega arith) (omega arith), few)

pub overflow_sub-seen : goal.overflow_sub-seen
overflow_sub-seen c =
    let few : let r = c.args.scene.rows in (c.places.result ≡ triangle r) × (triangle r ≤ 401856) =
    (c.places.ensures, triangle_few c.args.scene.rows (omega arith)) in
    omega (arith, products c.args.scene (omega arith) (omega arith), few)

pub returns : goal.returns
returns c = rw c.places.ensures
