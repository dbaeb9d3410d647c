pub mod TapeTable
