pub mod SquareAndCube
