pub mod ShapeFiles
