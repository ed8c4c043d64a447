mod Words
mod Results
mod Unique
