-- The scene of a record that holds a sheet's bytes and the numbers read from them. Definitions only.
use Rattle.scene.specs.Solve.{Scene}
use Rattle.scene.specs.Scene.{scene_of}
use Rattle.scene.specs.declared.scene.Sheet.{Sheet as SheetStruct}

abbrev pub sheet_scene : SheetStruct → Scene
sheet_scene sheet = scene_of sheet.bytes.now sheet.scene
